-- The loop's invariant: the statements passed are marked, and the rest is zero.
use lib.ListN.{take}
use Rattle.order_schedule.specs.Inner.Call.{MarkedBy}
use Rattle.order_schedule.proofs.mark.Given as goal

abbrev pub invariant-loop-at : goal.invariant-loop-at
invariant-loop-at l = MarkedBy (take l.at l.placed) l.fn.reached l.reached
