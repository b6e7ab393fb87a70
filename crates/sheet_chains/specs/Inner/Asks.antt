-- What the functions on the chain from a row on ask of where they are called.
use Rattle.std.specs.Prelude.{List, ℕ, ◌≤◌, length}
use Rattle.base.specs.Limits as limits
use Rattle.base.specs.Inner.Sizes as sizes
use Rattle.sheet.specs.declared.Counts.{Counts}
use Rattle.sheet.specs.Inner.Records.{Within}
use Rattle.sheet_chains.specs.Inner.Numbers.{Chained}

module _ (c : Counts) (work tables : List ℕ) (row : ℕ) where
  -- For the row's number, by those of later rows.
  pub record AsksNumber : Type 0 where
    pub numbers_room : sizes.per_chain ≤ length work
    pub tables-room : limits.table_entries ≤ length tables
    pub row_low : row ≤ limits.most_expressions
    pub within : Within c

  -- For what the numbers of all rows say.
  pub record AsksChain : Type 0 where
    pub chained : Chained c tables 0 work
    pub tables-room : limits.table_entries ≤ length tables
    pub row_low : row ≤ limits.most_expressions
    pub within : Within c
