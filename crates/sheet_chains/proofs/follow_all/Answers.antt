-- The rows below have their numbers, and the marks are as they were.
use mathlib.Core.Path.{ap, ◌∙◌}
use native.Mathlib.Omega.{arith}
use Prim.Native.Nat.{◌+◌}
use lib.ListN.{length-set}
use lib.Seq.{get_or-set_other}
use Rattle.sheet_chains.specs.Inner.Numbers.{chain_code}
use Rattle.sheet_chains.proofs.Laws.Numbers.{chained-more}
use Rattle.sheet_chains.proofs.follow_all.Goals as goal

pub loop-row-preserved : goal.loop-row-preserved
loop-row-preserved c =
    let a = c.args in
    let l = c.loop-row in
    let few = c.requires.2.few-exprs in (
      length-set l.work (673 + l.row) c.into.result ∙ l.invariant.0,
      chained-more a.counts a.tables.now l.row l.work l.invariant.1 c.into.result (omega arith) (omega arith)
          (c.into.ensures ∙ ap chain_code c.chain_from.ensures),
      λ j h. get_or-set_other l.work (673 + l.row) j c.into.result 0 (λ z. omega arith) ∙ l.invariant.2 j h,
    )
