-- What `enclosing` says of each row.
use Rattle.std.specs.Prelude.{ℕ, get_or}
use Rattle.sheet.specs.declared.Counts.{Counts}
use Rattle.sheet.specs.Sheet.{Rows}
use Rattle.sheet.specs.Nesting.{enclosing}

module _ (c : Counts) (t : Rows) where
  -- The query that encloses row k.
  abbrev pub enclosing_query : ℕ → ℕ
  enclosing_query k = get_or (enclosing c t) k 0
