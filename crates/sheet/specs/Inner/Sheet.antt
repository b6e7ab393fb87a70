-- A sheet as lists of rows. Rows count from 1, and 0 means none. Names are their rows: names ascend strictly, so two are the same text exactly
-- if they are the same row. Name 0 is the empty text.
use Rattle.std.specs.Prelude.{List, map, ℕ, ◌+◌}
use Rattle.base.specs.Lists.{range}
use Rattle.sheet.specs.declared.Counts.{Counts}
use Rattle.sheet.specs.declared.Row.{Row}
use Rattle.sheet.specs.Inner.Rows.{in_tables}
use Rattle.sheet.specs.declared.Special.{Special}
use Rattle.sheet.specs.Sheet.{Sheet}

-- ---- the sheet in the tables

abbrev pub fields_at : List ℕ → ℕ → Row
fields_at t r = (in_tables t).expr r

-- The same, which nothing writes out.
unfoldable pub row_at : List ℕ → ℕ → Row
row_at t r = fields_at t r

-- The rows 1 to n of a section.
unfoldable pub rows_to : {A : Type 0} → (ℕ → A) → ℕ → List A
rows_to at n = map at (range 1 (n + 1))

-- The sheet whose rows stand in the tables t: so many in each section, and the special names.
unfoldable pub sheet_of : Counts → Special → List ℕ → Sheet
sheet_of c x t = record {
  names = c.names;
  special = x;
  builtins = rows_to (in_tables t).builtin c.builtins;
  exprs = rows_to (row_at t) c.exprs;
  statements = rows_to (in_tables t).statement c.statements;
  queries = rows_to (in_tables t).query c.queries;
}
