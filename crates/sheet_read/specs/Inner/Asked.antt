-- Questions 2 to 6 as the code puts them: each way out, by the answers of the questions so far.
use Rattle.std.specs.Prelude.{◌≡◌, true, List, ℕ, ◌≤◌, is_ok}
use Rattle.base.specs.Limits as limit
use Rattle.base.specs.Limits.{Limits}
use Rattle.sheet.specs.declared.Special.{Special}
use Rattle.sheet.specs.Verdict.{Outcome, asked, verdict, read_tables, left_tables}

-- What the questions leave.
pub record Asked (lim : Limits) (s : List ℕ) (r : Outcome) (table_after : List ℕ) : Type 0 where
  pub came-to : r ≡ asked lim s
  pub tabled : is_ok r ≡ true → table_after ≡ read_tables s

-- What all questions leave, of tables and work that are so long. Nothing is said of the tables of a refused sheet.
pub record SheetTaken (lim : Limits) (s : List ℕ) (room long : ℕ) (r : Outcome) (tables_after : List ℕ) : Type 0 where
  pub came-to : r ≡ verdict lim s room long
  pub tabled : is_ok r ≡ true → tables_after ≡ left_tables s room r

-- The special names' rows fit an entry of the tables.
pub record Small (x : Special) : Type 0 where
  pub blank : x.blank ≤ (limit.library).names
  pub input : x.input ≤ (limit.library).names
  pub «data» : x.«data» ≤ (limit.library).names
