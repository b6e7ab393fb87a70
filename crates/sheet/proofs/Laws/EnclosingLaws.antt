-- Laws of `EnclosingLaws`.
use mathlib.Core.Path.{◌≡◌, sym, ◌∙◌}
use mathlib.Core.Bool.{Bool, true, false, cond}
use mathlib.Core.List.{List, [], ◌∷◌}
use Prim.Native.Nat.{ℕ, zero, suc, ◌≤◌, ◌<◌}
use native.Mathlib.Omega.{arith}
use lib.ListN.{get_or}
use borrow.Author.Tests.{le-leb, lt-leb}
use Rattle.base.specs.Limits as limits
use Rattle.sheet.specs.declared.Counts.{Counts}
use Rattle.sheet.specs.Sheet.{Rows}
use Rattle.sheet.specs.Naming.{expr_row, Naming, namers, upwards, namings}
use Rattle.sheet.specs.Nesting.{grown, lying, enclosing_of, enclosing}
use Rattle.sheet.proofs.Laws.GrownLaws.{grown-at, grown-before}
use Rattle.sheet.specs.Inner.Enclosing.{enclosing_query}

module _ (c : Counts) (t : Rows) where
  -- The same of the rows up to k.
  abbrev pub queries_to : ℕ → List ℕ
  queries_to k = grown (enclosing_of (namings c t)) k

  pub enclosing-before : (k j : ℕ) → k ≤ expr_row c.exprs → j ≤ k → get_or (queries_to k) j 0 ≡ enclosing_query c t j
  unfolding enclosing
  enclosing-before k j h l = grown-before (enclosing_of (namings c t)) (expr_row c.exprs) k j h l

  pub enclosing-query : (q : ℕ) → q ≤ limits.most_queries → enclosing_query c t q ≡ q
  unfolding enclosing grown
  enclosing-query zero h = sym (grown-before (enclosing_of (namings c t)) (expr_row c.exprs) 0 0 (omega arith) (omega arith))
  enclosing-query (suc q) h =
      grown-at (enclosing_of (namings c t)) (expr_row c.exprs) q (omega arith) ∙ rw (le-leb (suc q) limits.most_queries h)

  pub enclosing-row : (k : ℕ) → limits.most_queries < suc k → suc k ≤ expr_row c.exprs
      → enclosing_query c t (suc k) ≡ lying (queries_to k) (suc k) (namers (suc k) (namings c t))
  unfolding enclosing
  enclosing-row k h l = grown-at (enclosing_of (namings c t)) (expr_row c.exprs) k l ∙ rw (lt-leb (suc k) limits.most_queries h)

  -- Every row lies in a query's row, or in none.
  lying_small : (l : List ℕ) (k : ℕ) (xs : List Naming) → ((j : ℕ) → get_or l j 0 ≤ limits.most_queries) → lying l k xs ≤ limits.most_queries
  lying_small l k [] h = omega arith
  lying_small l k (x ∷ []) h = go (upwards x.by k)
    where
      go : (b : Bool) → cond b (get_or l x.place 0) 0 ≤ limits.most_queries
      go true = h x.place
      go false = omega arith
  lying_small l k (x ∷ y ∷ xs) h = omega arith
