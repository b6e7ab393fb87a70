use mathlib.Core.Path.{◌≡◌, refl, ap, ◌∙◌}
use mathlib.Core.List.{List, ◌++◌}
use Prim.Native.Nat.{ℕ}
use native.Mathlib.Omega.{arith}
use lib.ListN.{drop, set, length-set}
use borrow.Author.Rules.{rules}
use Rattle.base.specs.Lists.{range}
use Rattle.base.proofs.Laws.Ranges.{range-nil}
use Rattle.buffers.proofs.Laws.Fills.{count-more}
use Rattle.buffers.proofs.count_up.Goals as goal

pub loop-i-init : goal.loop-i-init
loop-i-init c = (search rules, refl, rw (range-nil 0 0 (omega arith)))

pub loop-i-preserved : goal.loop-i-preserved
loop-i-preserved c =
    let loop = c.loop-i in (
      omega arith,
      length-set loop.buffer loop.i loop.i ∙ loop.invariant.1,
      ap (λ (l : List ℕ). set l loop.i loop.i) loop.invariant.2 ∙ count-more c.args.buffer.now loop.i (omega arith),
    )

pub returns : goal.returns
returns c =
    let loop = c.loop-i in
    let start = c.args in
    let e : loop.i ≡ start.n = omega arith in
    loop.invariant.2 ∙ ap (λ (k : ℕ). range 0 k ++ drop k start.buffer.now) e
