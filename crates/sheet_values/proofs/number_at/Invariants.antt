-- The loop's invariant: the digits up to place `next` are read (`ReadingNumber`).
use Prim.Native.Nat.{◌-◌}
use lib.ListN.{length}
use Rattle.sheet_values.proofs.Laws.NumberLaws.{ReadingNumber}
use Rattle.sheet_values.proofs.number_at.Given as goal

abbrev pub invariant-loop-digit : goal.invariant-loop-digit
invariant-loop-digit l = ReadingNumber l.s l.at l.value l.next

abbrev pub decreases-loop-digit : goal.decreases-loop-digit
decreases-loop-digit l = length l.s - l.next
