-- The loop's invariant: the first q states are 0.
use mathlib.Core.Path.{◌≡◌}
use Prim.Native.Nat.{◌-◌}
use lib.ListN.{length}
use Rattle.answer_schedule.specs.Inner.Bases.{FreshTo}
use Rattle.answer_schedule.proofs.bases.clear_states.Given as goal

abbrev pub invariant-loop-q : goal.invariant-loop-q
invariant-loop-q l = (length l.work ≡ length l.initial.work) × FreshTo l.width l.work (l.q - 1)
