-- The loop's invariant: so many rows are read and stored (`ReadingBlock`).
use Prim.Native.Nat.{◌-◌}
use lib.ListN.{length}
use Rattle.sheet_sections.proofs.Laws.Blocks.{ReadingBlock}
use Rattle.sheet_sections.proofs.rows_at.Given as goal

abbrev pub invariant-loop-next : goal.invariant-loop-next
invariant-loop-next l = ReadingBlock l.s l.at l.area l.initial.table l.next l.rows l.table

abbrev pub decreases-loop-next : goal.decreases-loop-next
decreases-loop-next l = length l.s - l.next
