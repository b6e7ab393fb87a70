-- What the marks in memory tell of the rows, and the numbers behind them of the chains.
use Rattle.std.specs.Prelude.{List, ℕ, ◌≤◌, length}
use Rattle.base.specs.Limits as limits
use Rattle.sheet.specs.declared.Counts.{Counts}
use Rattle.sheet.specs.Inner.Records.{Within}
use Rattle.sheet.specs.Naming.{expr_row, namings}
use Rattle.sheet_marks.specs.Inner.Homes.{SettledHomes}
use Rattle.sheet_chains.specs.Inner.Numbers.{Chained}
use Rattle.sheet.specs.Inner.Rows.{in_tables}

-- The tables and the counts are in bounds, and the memory holds the marks of the rows and the numbers of the chains.
pub record Known (c : Counts) (t w : List ℕ) : Type 0 where
  pub tables : limits.table_entries ≤ length t
  pub within : Within c
  pub marks : SettledHomes (namings c (in_tables t)) (expr_row c.exprs) w
  pub chains : Chained c t 0 w
