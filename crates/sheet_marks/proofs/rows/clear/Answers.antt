-- The first words are zeros, and no row is named.
use mathlib.Core.Path.{ap, ◌∙◌}
use native.Mathlib.Omega.{arith}
use lib.ListN.{get_or, drop, get_or-append}
use Rattle.std.proofs.lemmas.List.{length-take-le, length-append, get_or-replicate}
use Rattle.sheet.specs.Naming.{namers}
use Rattle.sheet_marks.proofs.rows.clear.Goals as goal

pub returns : goal.returns
unfolding namers
returns c =
    let w = c.args.work.now in
    let long = length-take-le 673 w c.requires in
    let zeros = c.fill.ensures.after (λ y e. e) in
    record {
      room = omega (arith, long, c.fill.ensures.len, length-append c.fill.new.self (drop 673 w), c.requires);
      code = λ k h. get_or-append c.fill.new.self (drop 673 w) 0 k (omega (arith, long, c.fill.ensures.len)) ∙ ap (λ l. get_or l k 0) zeros ∙ get_or-replicate _ k 0 0 (omega (arith, long));
    }
