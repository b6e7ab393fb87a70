-- Question 6: the query that encloses a row, and the level of a query, where rows that are named so tell them; 0 where they do not.
-- Beside: document 01, Sheet (the paragraph behind the lists).
use Rattle.std.specs.Prelude.{cond, Bool, true, false, not, ◌&&◌, ◌||◌, List, [], ◌∷◌, ◌++◌, ℕ, zero, suc, eqb, leb, ltb, get_or}
use Rattle.sheet.specs.declared.Counts.{Counts}
use Rattle.sheet.specs.Sheet.{Rows}
use Rattle.sheet.specs.Naming.{query_row, expr_row, is_query, Naming, namers, upwards, namings}

-- ---- the query that encloses a row, and the level of a query

-- A list whose next element each time follows from those before it; element 0 is 0.
unfoldable pub grown : (List ℕ → ℕ → ℕ) → ℕ → List ℕ
grown f zero = 0 ∷ []
grown f (suc k) = let l = grown f k in l ++ (f l (suc k) ∷ [])

-- Where row k lies, by these namings of it, if the rows before lie in the queries l.
abbrev pub lying : List ℕ → ℕ → List Naming → ℕ
lying l k [] = 0
lying l k (x ∷ []) = cond (upwards x.by k) (get_or l x.place 0) 0
lying l k (x ∷ y ∷ xs) = 0

-- A query is where its rows lie.
abbrev pub enclosing_of : List Naming → List ℕ → ℕ → ℕ
enclosing_of ns l k = cond (is_query k) k (lying l k (namers k ns))

-- One step deeper, where the level above is known.
abbrev pub deeper : ℕ → ℕ
deeper zero = zero
deeper (suc l) = suc (suc l)

module _ (c : Counts) (t : Rows) where
  -- The query that encloses each row.
  unfoldable pub enclosing : List ℕ
  enclosing = grown (enclosing_of (namings c t)) (expr_row c.exprs)

  -- The query that encloses query q: that of the row that names it.
  unfoldable pub parent : ℕ → ℕ
  parent q = lying enclosing q (namers (query_row q) (namings c t))

  -- The level of query q, if row 1 is found in fewer than n steps upwards.
  unfoldable pub level_in : ℕ → ℕ → ℕ
  level_in zero q = zero
  level_in (suc n) q = cond (eqb q 1) 1 (deeper (level_in n (parent q)))

  -- The level of query q. No way up to row 1 has more queries than there are.
  unfoldable pub level : ℕ → ℕ
  level q = level_in c.queries q

-- ---- chains

module _ (c : Counts) (t : Rows) where
  abbrev pub is_var_at : ℕ → Bool
  is_var_at r = eqb (t.expr r).kind 6

  -- Does the chain go on after row r?
  abbrev pub goes_on : ℕ → Bool
  goes_on r = ltb r (t.expr r).next && leb (t.expr r).next c.exprs

  -- Is each of the first n members from row r on a Var?
  unfoldable pub vars_in : ℕ → ℕ → Bool
  vars_in zero r = true
  vars_in (suc n) r = is_var_at r && (not (goes_on r) || vars_in n (t.expr r).next)

  -- Do the members from row r on, at most n, come to an end, and are they odd in number? With `false` for `odd`: even.
  unfoldable pub ends_in : ℕ → Bool → ℕ → Bool
  ends_in zero odd r = false
  ends_in (suc n) odd r = cond (eqb (t.expr r).next 0) odd (goes_on r && ends_in n (not odd) (t.expr r).next)

  -- After row r a chain has no more members than there are expressions.
  unfoldable pub all_vars : ℕ → Bool
  all_vars r = vars_in (suc c.exprs) r

  unfoldable pub ends_odd : ℕ → Bool
  ends_odd r = ends_in (suc c.exprs) true r
