-- The query that encloses each row, put into its mark in the place's stead, rows in ascending order.
use Rattle.std.specs.Prelude.{◌≡◌, cond, List, ℕ, ◌+◌, ◌*◌, ◌/◌, ◌%◌, ◌≤◌, ◌<◌, eqb, leb, ltb, length, get_or, set}
use Rattle.base.specs.Inner.Sizes as sizes
use Rattle.base.specs.Limits as limits
use Rattle.sheet.specs.Naming.{Naming, namers}
use Rattle.sheet.specs.Nesting.{grown, enclosing_of}
use Rattle.sheet_marks.specs.Inner.Codes.{code_of}

-- The query of row p, as the marks up to row n have it.
unfoldable pub home_of : ℕ → ℕ → List ℕ → ℕ
home_of n p w = cond (ltb n p) 0 (cond (leb p limits.most_queries) p (get_or w p 0 / 8))

-- A mark with its row's query for its place.
unfoldable pub settled : ℕ → ℕ → ℕ
settled v home = cond (eqb (v % 4) 1) (v % 8 + 8 * home) v

-- The row after n.
unfoldable pub settle_next : ℕ → List ℕ → List ℕ
settle_next n w = set w (n + 1) (settled (get_or w (n + 1) 0) (home_of n (get_or w (n + 1) 0 / 8) w))

-- Rows up to n have their query in their marks; queries and later rows their place.
pub record SettledHomes (ns : List Naming) (n : ℕ) (w : List ℕ) : Type 0 where
  pub room : sizes.per_row ≤ length w
  pub low : (j : ℕ) → j < sizes.per_row → get_or w j 0 % 8 ≡ code_of j (namers j ns) % 8
  pub queries : (j : ℕ) → j ≤ limits.most_queries → get_or w j 0 ≡ code_of j (namers j ns)
  pub later : (j : ℕ) → j < sizes.per_row → n < j → get_or w j 0 ≡ code_of j (namers j ns)
  pub homes : (j : ℕ) → limits.most_queries < j → j ≤ n → get_or w j 0 / 8 ≡ get_or (grown (enclosing_of ns) n) j 0
