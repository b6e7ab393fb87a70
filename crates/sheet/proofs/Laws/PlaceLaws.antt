-- Where a naming puts its row: never at a larger row than the one that names.
use mathlib.Core.Path.{◌≡◌, refl, sym, ap, ◌∙◌, subst}
use mathlib.Core.Bool.{Bool, true, false, cond, ◌&&◌}
use mathlib.Core.List.Memᴰ
use mathlib.Core.List.{List, [], ◌∷◌, Memᴰ}
use mathlib.Core.Logic.{◌⊎◌, inl, inr, ⊎_elim}
use Prim.Native.Nat.{ℕ, ◌≤◌}
use native.Mathlib.Omega.{arith}
use lib.Dec.{leb, ltb}
use borrow.Author.Tests.{leb-true}
use Rattle.base.specs.Inner.Sizes as sizes
use Rattle.base.proofs.Laws.Truth.{bool_cases, and_right}
use Rattle.sheet.specs.declared.Counts.{Counts}
use Rattle.sheet.specs.Inner.Records.{Within}
use Rattle.sheet.specs.Sheet.{Rows}
use Rattle.sheet.specs.declared.fields.Field.{Field}
use Rattle.sheet.specs.Fields.{a_query}
use Rattle.sheet.specs.Naming.{Entry, query_row, statement_row, expr_row, target, place_of, expr_entries, statement_entries, query_entries, Naming}
use Rattle.sheet.proofs.Laws.Origins.{Origin, by-query, by-statement, by-expr}

-- What holds of each element of a list, one after the other.
abbrev pub EachEntry : (Entry → Type 0) → List Entry → Type 0
EachEntry P [] = Unit
EachEntry P (e ∷ es) = P e × EachEntry P es

pub each : (P : Entry → Type 0) (es : List Entry) → EachEntry P es → {e : Entry} → Memᴰ e es → P e
each P [] a m = absurd (Memᴰ.not-nil m)
each P (d ∷ es) a {e} m =
    ⊎_elim (λ (q : e ≡ d). subst P (sym q) a.0) (λ (q : Memᴰ e es). each P es a.1 q) (Memᴰ.cases_cons m)

module _ (c : Counts) (t : Rows) where
  pub query-place : (q : ℕ) {e : Entry} → Memᴰ e (query_entries c t q) → e.place ≡ query_row q
  unfolding query_entries
  query-place q m = each (λ e. e.place ≡ query_row q) _ (refl, tt) m

  pub statement-place : (s : ℕ) {e : Entry} → Memᴰ e (statement_entries c t s) → e.place ≡ statement_row s
  unfolding statement_entries
  statement-place s m = each (λ e. e.place ≡ statement_row s) _ (refl, (refl, (refl, (refl, (refl, (refl, tt)))))) m

  -- A comprehension's query, or 0.
  query_small : (v : ℕ) → target c a_query v ≤ c.queries
  unfolding target
  query_small v = go (bool_cases (ltb 0 v && leb v c.queries))
    where
      go : (ltb 0 v && leb v c.queries ≡ true) ⊎ (ltb 0 v && leb v c.queries ≡ false) → cond (ltb 0 v && leb v c.queries) v 0 ≤ c.queries
      go (inl p) = rw p (leb-true v c.queries (and_right (ltb 0 v) _ p))
      go (inr p) = rw p (omega arith)

  part-below : Within c → (r : ℕ) (f : Field) → place_of c f (t.expr r).third r ≤ expr_row r
  unfolding place_of
  part-below few r f = go f.term
    where
      go : (b : Bool) → cond b (target c a_query (t.expr r).third) (expr_row r) ≤ expr_row r
      go true = let s = query_small (t.expr r).third in let q = few.few-queries in omega arith
      go false = omega arith

  expr_place_below : Within c → (b : Bool) (r : ℕ) {e : Entry} → Memᴰ e (expr_entries c t b r) → e.place ≤ expr_row r
  unfolding expr_entries
  expr_place_below few b r m =
      let at = part-below few r in
      each (λ e. e.place ≤ expr_row r) _ (at _, (at _, (at _, (at _, (at _, tt))))) m

  pub record PlacedNaming (x : Naming) : Type 0 where
    pub below : x.place ≤ x.by
    pub in_rows : x.by ≤ sizes.named_rows

  pub naming_placed : Within c → {x : Naming} → Origin c t x → PlacedNaming x
  naming_placed few {x} (by-query q e a b m d) =
      let p : x.place ≡ q = ap (λ (y : Naming). y.place) d.same ∙ query-place q m in
      let w : x.by ≡ q = ap (λ (y : Naming). y.by) d.same in
      let s = few.few-queries in
      record { below = omega arith; in_rows = omega arith }
  naming_placed few {x} (by-statement s e a b m d) =
      let p : x.place ≡ statement_row s = ap (λ (y : Naming). y.place) d.same ∙ statement-place s m in
      let w : x.by ≡ statement_row s = ap (λ (y : Naming). y.by) d.same in
      let n = few.few-statements in
      record { below = omega arith; in_rows = omega arith }
  naming_placed few {x} (by-expr r e a b m d) =
      let p : x.place ≡ e.place = ap (λ (y : Naming). y.place) d.same in
      let l = expr_place_below few _ r m in
      let w : x.by ≡ expr_row r = ap (λ (y : Naming). y.by) d.same in
      let n = few.few-exprs in
      record { below = omega arith; in_rows = omega arith }
