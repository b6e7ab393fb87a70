-- The loop's invariant: i values are read and stored (`Fields`).
use Prim.Native.Nat.{◌-◌}
use Rattle.sheet_values.proofs.Laws.Rows.{Fields}
use Rattle.sheet_values.proofs.row_at.Given as goal

abbrev pub invariant-loop-i : goal.invariant-loop-i
invariant-loop-i l = Fields l.s l.at l.initial.row l.next l.i l.row

abbrev pub decreases-loop-i : goal.decreases-loop-i
decreases-loop-i l = l.last - l.i
