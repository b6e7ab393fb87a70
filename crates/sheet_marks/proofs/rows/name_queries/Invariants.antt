use mathlib.Core.Path.{◌≡◌}
use Prim.Native.Nat.{◌+◌, ◌-◌, ◌≤◌}
use lib.ListN.{length}
use Rattle.sheet.specs.Naming.{by_queries}
use Rattle.sheet_marks.specs.Inner.Marks.{Marks}
use Rattle.sheet.specs.Inner.Rows.{in_tables}
use Rattle.sheet_marks.proofs.rows.name_queries.Given as goal

abbrev pub invariant-loop-row : goal.invariant-loop-row
invariant-loop-row l =
    (1 ≤ l.row) × (l.row ≤ l.counts.queries + 1) × (length l.work ≡ length l.initial.work) × Marks (by_queries l.counts (in_tables l.tables) (l.row - 1)) l.work
