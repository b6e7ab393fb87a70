-- The level of a query, by the marks in memory: as the code computes it.
use Rattle.std.specs.Prelude.{cond, List, ℕ, zero, suc, ◌/◌, ◌%◌, eqb, leb, get_or}
use Rattle.sheet.specs.Nesting.{deeper}
use Rattle.sheet_marks.specs.Inner.Homes.{home_of}

module _ (last : ℕ) (w : List ℕ) where
  -- The query that encloses query q.
  unfoldable pub parent_by : ℕ → ℕ
  parent_by q = cond (leb q 32) (cond (eqb (get_or w q 0 % 4) 1) (home_of last (get_or w q 0 / 8) w) 0) 0

  -- The level of query q, if row 1 is found in fewer than n steps upwards.
  unfoldable pub level_by : ℕ → ℕ → ℕ
  level_by zero q = zero
  level_by (suc n) q = cond (eqb q 1) 1 (deeper (level_by n (parent_by q)))
