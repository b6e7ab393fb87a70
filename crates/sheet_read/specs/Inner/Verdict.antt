-- The questions put to a sheet, each to the whole sheet before the next, and what the reader leaves.
use Rattle.std.specs.Prelude.{◌≡◌, List, ℕ, replicate}
use Rattle.base.specs.Limits.{Limits}
use Rattle.sheet.specs.Verdict.{Outcome, verdict, left_tables}

-- All that the reader leaves: its outcome, and every element of the tables and of work, which are so long.
pub record SheetLeft (lim : Limits) (s : List ℕ) (room long : ℕ) (r : Outcome) (tables_after work_after : List ℕ) : Type 0 where
  pub came-to : r ≡ verdict lim s room long
  pub tabled : tables_after ≡ left_tables s room r
  pub worked : work_after ≡ replicate long 0
