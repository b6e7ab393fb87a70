-- The loop's invariant: no query is analysed, the bases of the queries in front of q are written, and the next base is their sum.
use mathlib.Core.Path.{◌≡◌}
use Prim.Native.Nat.{◌-◌}
use lib.ListN.{length}
use Rattle.definition_room.specs.Inner.Sums.{sum_to}
use Rattle.definition_state.specs.Inner.Table.{count_at}
use Rattle.answer_schedule.proofs.Laws.Bases.{BasedTo}
use Rattle.answer_schedule.proofs.bases.set_bases.Given as goal

abbrev pub invariant-loop-q : goal.invariant-loop-q
invariant-loop-q l =
    (length l.work ≡ length l.initial.work) × (l.base ≡ sum_to (count_at l.tables) (l.q - 1)) × BasedTo l.tables l.width l.work (l.q - 1)
