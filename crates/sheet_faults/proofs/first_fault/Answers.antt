-- The first row at fault is among those that are left.
use mathlib.Core.Path.{sym, ◌∙◌}
use Prim.Native.Nat.{◌+◌}
use native.Mathlib.Omega.{arith}
use Rattle.sheet_faults.proofs.Laws.Firsts.{first-here, first_next, first_done}
use Rattle.sheet_faults.proofs.first_fault.Goals.{else-loop-row-test, then-loop-row-test+else-is_at_fault+else-row-last}
use Rattle.sheet_faults.proofs.first_fault.Goals as goal

pub returns-then-is_at_fault : goal.returns-then-is_at_fault
returns-then-is_at_fault g c = λ fault tells.
    let l = c.loop-row in (
      first-here fault c.args.last l.row c.loop-row-test.true (sym (tells l.row c.is_at_fault.result l.invariant.0 c.loop-row-test.true c.is_at_fault.ensures) ∙ c.if-is_at_fault.true) ∙ l.invariant.2 fault tells,
      (l.invariant.0, c.loop-row-test.true),
    )

pub loop-row-preserved : goal.loop-row-preserved
loop-row-preserved g c =
    let l = c.loop-row in
    (omega arith, omega arith, λ fault tells. first_next fault c.args.last l.row c.loop-row-test.true (sym (tells l.row c.is_at_fault.result l.invariant.0 c.loop-row-test.true c.is_at_fault.ensures) ∙ c.if-is_at_fault.false) ∙ l.invariant.2 fault tells)

pub returns : goal.returns
returns g c = λ fault tells.
    let l = c.loop-row in (
      elim c.loop-row-test.branch [
        | else-loop-row-test w ↦ first_done fault c.args.last l.row w.loop-row-test.false ∙ l.invariant.2 fault tells
        | then-loop-row-test+else-is_at_fault+else-row-last w ↦
            first_done fault c.args.last (l.row + 1) (omega arith)
            ∙ first_next fault c.args.last l.row w.loop-row-test.true (sym (tells l.row w.is_at_fault.result l.invariant.0 w.loop-row-test.true w.is_at_fault.ensures) ∙ w.if-is_at_fault.false)
            ∙ l.invariant.2 fault tells
      ],
      tt,
    )
