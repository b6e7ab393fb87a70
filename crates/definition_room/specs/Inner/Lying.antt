-- A row of an accepted sheet lies where the one field that names it puts it.
use Rattle.std.specs.Prelude.{◌≡◌, List, ◌⊎◌, ℕ}
use Rattle.sheet.specs.declared.Counts.{Counts}
use Rattle.sheet.specs.Naming.{statement_row, expr_row}
use Rattle.sheet.specs.Inner.Enclosing.{enclosing_query}
use Rattle.sheet.specs.Inner.Rows.{in_tables}

module _ (c : Counts) (t : List ℕ) where
  -- No expression, or one that lies in query q.
  abbrev pub Lies : ℕ → ℕ → Type 0
  Lies q r = (r ≡ 0) ⊎ (enclosing_query c (in_tables t) (expr_row r) ≡ q)

  -- No statement, or one that lies in query q.
  abbrev pub StatementLies : ℕ → ℕ → Type 0
  StatementLies q s = (s ≡ 0) ⊎ (enclosing_query c (in_tables t) (statement_row s) ≡ q)
