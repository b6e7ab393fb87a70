-- The sheet that tables hold: its counts and special names stand in front of its rows.
use Rattle.std.specs.Prelude.{◌≡◌, List, ℕ, ◌≤◌, length, get_or}
use Rattle.base.specs.Limits as limits
use Rattle.sheet.specs.declared.Counts.{Counts}
use Rattle.sheet.specs.Inner.Records.{Within}
use Rattle.sheet.specs.declared.Special.{Special}
use Rattle.sheet.specs.Faults.{first_line}
use Rattle.sheet_facts.specs.Inner.Facts.{SheetFacts}
use Rattle.sheet.specs.Sheet.{Sheet}
use Rattle.sheet.specs.Inner.Sheet.{sheet_of}
use Rattle.sheet.specs.Inner.Rows.{in_tables}

module _ (t : List ℕ) where
  -- How many rows each section has.
  abbrev pub name_count : ℕ
  name_count = get_or t 0 0

  abbrev pub builtin_count : ℕ
  builtin_count = get_or t 1 0

  abbrev pub expr_count : ℕ
  expr_count = get_or t 2 0

  abbrev pub statement_count : ℕ
  statement_count = get_or t 3 0

  abbrev pub query_count : ℕ
  query_count = get_or t 4 0

  abbrev pub counts_at : Counts
  counts_at = record { names = name_count; builtins = builtin_count; exprs = expr_count; statements = statement_count; queries = query_count }

  abbrev pub special_at : Special
  special_at = record { blank = get_or t 5 0; input = get_or t 6 0; «data» = get_or t 7 0 }

  unfoldable pub sheet_at : Sheet
  sheet_at = sheet_of counts_at special_at t

  -- They hold a sheet that passed the questions 1 to 6.
  pub record Accepted : Type 0 where
    pub room : limits.table_entries ≤ length t
    pub within : Within counts_at
    pub facts : SheetFacts counts_at (in_tables t)
    pub fine : first_line counts_at (in_tables t) ≡ 0
