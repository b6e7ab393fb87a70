-- The loop's invariant: the names that follow are still to be looked at (`Finding`).
use Prim.Native.Nat.{◌-◌}
use lib.ListN.{length}
use Rattle.sheet_names.proofs.Laws.Finding.{Finding}
use Rattle.sheet_names.proofs.special_names.Given as goal

abbrev pub invariant-loop-next : goal.invariant-loop-next
invariant-loop-next l = Finding l.s l.at l.row l.blank l.input l.«data»

abbrev pub decreases-loop-next : goal.decreases-loop-next
decreases-loop-next l = length l.s - l.at
