-- What the function that marks what a query names asks of where it is called.
use Rattle.std.specs.Prelude.{List, ℕ, ◌≤◌, length}
use Rattle.base.specs.Limits as limits
use Rattle.base.specs.Inner.Sizes as sizes
use Rattle.sheet.specs.declared.Counts.{Counts}
use Rattle.sheet.specs.Inner.Records.{Within}

pub record AsksQueryRow (c : Counts) (work tables : List ℕ) (row : ℕ) : Type 0 where
  pub marks-room : sizes.per_row ≤ length work
  pub tables-room : limits.table_entries ≤ length tables
  pub row_low : row ≤ limits.most_queries
  pub within : Within c
