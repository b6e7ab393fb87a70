-- How many statements a query has, counted row by row.
use Rattle.std.specs.Prelude.{List, ℕ, length}
use Rattle.scope_gather.specs.Inner.Queries.{stmts_at_row}

module _ (t : List ℕ) where
  -- The statements from a row on.
  abbrev pub count_from : ℕ → ℕ
  count_from row = length (stmts_at_row t row)
