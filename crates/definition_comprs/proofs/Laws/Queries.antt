-- Laws of `Queries`.
use mathlib.Core.Path.{◌≡◌, refl, sym, ap, ◌∙◌}
use mathlib.Core.Bool.{true, ◌&&◌}
use mathlib.Core.List.{List}
use mathlib.Core.Logic.{◌⊎◌, inl, inr}
use Prim.Native.Nat.{ℕ, ◌≤◌}
use native.Mathlib.Omega.{arith}
use lib.Dec.{leb}
use borrow.Author.Tests.{leb-true}
use Rattle.base.specs.Limits as limits
use Rattle.base.proofs.Laws.Truth.{eq_cases, and_left, and_right}
use Rattle.sheet.specs.Inner.Records.{expr_at}
use Rattle.sheet.specs.Fields.{kinds, kind_of}
use Rattle.sheet_fields.proofs.Laws.Tables.{HoldsQuery}
use Rattle.sheet.specs.declared.Row.{Row}
use Rattle.sheet.specs.Inner.Sheet.{row_at}
use Rattle.sheet.specs.Kinds.{is_compr}
use Rattle.scope_walk.specs.Inner.Sheets.{Accepted, expr_count, query_count}
use Rattle.definition_comprs.specs.Inner.Queries.{QueryIn}

-- ---- the ways out of the test

-- ---- in an accepted sheet

-- The third field of a comprehension's kind.
pub query-field : (kind : ℕ) → (leb 10 kind && leb kind 12) ≡ true → HoldsQuery (kind_of kind).third
unfolding kind_of kinds
query-field kind h = go (eq_cases kind 10) (eq_cases kind 11)
  where
    go : ((kind ≡ 10) ⊎ (kind ≡ 10 → ⊥)) → ((kind ≡ 11) ⊎ (kind ≡ 11 → ⊥)) → HoldsQuery (kind_of kind).third
    go (inl p) q = rw p (refl, refl)
    go (inr p) (inl q) = rw q (refl, refl)
    go (inr p) (inr q) =
        let low = leb-true 10 kind (and_left (leb 10 kind) _ h) in
        let high = leb-true kind 12 (and_right (leb 10 kind) _ h) in
        let e : kind ≡ 12 = omega arith in
        rw e (refl, refl)

module _ (t : List ℕ) (ok : Accepted t) (r : ℕ) (from : 1 ≤ r) (to : r ≤ expr_count t) (is : is_compr (row_at t r) ≡ true) where
  pub query-from : 1 ≤ (row_at t r).third
  unfolding row_at
  query-from = (ok.facts.expr r from to).in_third.fine.is_set (query-field (expr_at t r).kind is).1

  pub query-to : (row_at t r).third ≤ query_count t
  unfolding row_at
  query-to =
      let h = (ok.facts.expr r from to).in_third.fine.in_range in
      rw (query-field (expr_at t r).kind is).0 at h

  pub query-low : (row_at t r).third ≤ limits.most_queries
  query-low = omega (arith, query-to, ok.within.few-queries)

-- The row that a walk has read.
pub row-query : (t : List ℕ) → Accepted t → (r : ℕ) → (r ≡ 0 → ⊥) → r ≤ expr_count t → (w : Row) → w ≡ row_at t r → QueryIn w
row-query t ok r ne to w is c =
    let at : is_compr (row_at t r) ≡ true = ap (λ (v : Row). is_compr v) (sym is) ∙ c in
    rw is (query-from t ok r (omega arith) to at, query-low t ok r (omega arith) to at)
