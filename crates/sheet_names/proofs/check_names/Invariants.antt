-- The loop's invariant: the names that follow decide (`Checking`).
use Prim.Native.Nat.{◌-◌}
use lib.ListN.{length}
use Rattle.sheet_names.proofs.Laws.Checking.{Checking}
use Rattle.sheet_names.proofs.check_names.Given as goal

abbrev pub invariant-loop-at : goal.invariant-loop-at
invariant-loop-at l = Checking l.s l.last l.at l.line

abbrev pub decreases-loop-at : goal.decreases-loop-at
decreases-loop-at l = length l.s - l.at
