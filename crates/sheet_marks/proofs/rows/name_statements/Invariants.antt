use mathlib.Core.Path.{◌≡◌}
use Prim.Native.Nat.{◌+◌, ◌-◌, ◌≤◌}
use lib.ListN.{length}
use Rattle.sheet.specs.Naming.{by_statements}
use Rattle.sheet_marks.specs.Inner.Marks.{Marks}
use Rattle.sheet.specs.Inner.Rows.{in_tables}
use Rattle.sheet_marks.proofs.rows.name_statements.Given as goal

abbrev pub invariant-loop-row : goal.invariant-loop-row
invariant-loop-row l =
    (1 ≤ l.row) × (l.row ≤ l.counts.statements + 1) × (length l.work ≡ length l.initial.work) × Marks (by_statements l.counts (in_tables l.tables) (l.row - 1)) l.work
