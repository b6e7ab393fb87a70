-- The rows of a sheet by their numbers. Rows count from 1, and 0 means none.
use Rattle.std.specs.Prelude.{List, ℕ}
use Rattle.sheet.specs.Inner.Records.{builtin_at, expr_at, statement_row_at, first_at}
use Rattle.sheet.specs.Sheet.{Rows}

-- ---- the rows in the tables

abbrev pub in_tables : List ℕ → Rows
in_tables t = record {
  builtin = builtin_at t;
  expr = expr_at t;
  statement = statement_row_at t;
  query = first_at t;
}
