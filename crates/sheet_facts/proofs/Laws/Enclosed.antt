-- Every row of an accepted sheet lies in a query of the sheet.
use mathlib.Core.Path.{◌≡◌, refl, sym, ap, ◌∙◌, subst}
use mathlib.Core.Bool.{true, false}
use mathlib.Core.List.{List, [], ◌∷◌, Memᴰ}
use mathlib.Core.Logic.{◌⊎◌, inl, inr, ⊎_elim}
use Prim.Native.Nat.{ℕ, zero, suc, ◌+◌, ◌-◌, ◌≤◌, ◌<◌}
use native.Mathlib.Omega.{arith}
use lib.Dec.{eqb}
use borrow.Author.Tests.{eqb-true, lt-leb, ltb-true}
use Rattle.base.specs.Limits as limits
use Rattle.base.proofs.Laws.Truth.{lt_cases, bool_cases, not-both}
use Rattle.base.proofs.Laws.Members.{filter_mem}
use Rattle.sheet.specs.declared.Counts.{Counts}
use Rattle.sheet.specs.Inner.Records.{Within}
use Rattle.sheet.specs.Sheet.{Rows}
use Rattle.sheet.specs.Naming.{statement_row, expr_row, Naming, namers, upwards, named_so, namings}
use Rattle.sheet.specs.Faults.{is_named_so}
use Rattle.sheet.specs.Inner.Enclosing.{enclosing_query}
use Rattle.sheet.proofs.Laws.EnclosingLaws.{enclosing-before, enclosing-query, enclosing-row}
use Rattle.sheet_facts.proofs.Laws.Accepted.{FineRows}
use Rattle.sheet.proofs.Laws.Origins.{Origin, by-query, by-statement, by-expr, origin}
use Rattle.sheet_facts.proofs.Laws.Rows.{fine-expr_row, fine-statement_row}
use Rattle.sheet_facts.proofs.Laws.Places.{expr-place}
use Rattle.sheet.proofs.Laws.PlaceLaws.{query-place, statement-place}

-- Row k is a row of the sheet.
abbrev pub StandsIn : Counts → ℕ → Type 0
StandsIn c k =
    ((1 ≤ k) × (k ≤ c.queries))
    ⊎ (((1 + limits.most_queries ≤ k) × (k ≤ statement_row c.statements)) ⊎ ((1 + 160 ≤ k) × (k ≤ expr_row c.exprs)))

-- The one naming of a row that is named so.
pub record NamedBy (ns : List Naming) (k : ℕ) : Type 0 where
  pub naming : Naming
  pub among : Memᴰ naming ns
  pub to_row : naming.to ≡ k
  pub only : namers k ns ≡ naming ∷ []
  pub up : upwards naming.by k ≡ true

pub named-row : (ns : List Naming) (k : ℕ) → named_so k (namers k ns) ≡ true → NamedBy ns k
unfolding namers
named-row ns k h = go (namers k ns) refl h
  where
    go : (xs : List Naming) → namers k ns ≡ xs → named_so k xs ≡ true → NamedBy ns k
    go [] e p = absurd (not-both p refl)
    go (x ∷ []) e p =
        let m = filter_mem (λ y. eqb y.to k) ns (subst (λ (l : List Naming). Memᴰ x l) (sym e) (Memᴰ.head refl)) in
        record { naming = x; among = m.0; to_row = eqb-true x.to k m.1; only = e; up = p }
    go (x ∷ y ∷ xs) e p = absurd (not-both p refl)

pub up-below : (by k : ℕ) → limits.most_queries < k → upwards by k ≡ true → by < k
up-below by k h p = ltb-true by k (rw (lt-leb k limits.most_queries h) at p)

module _ (c : Counts) (t : Rows) (few : Within c) (ok : FineRows c t) where
  -- ---- what `enclosing` says of a row

  pub encloses_at_place : (k : ℕ) (n : NamedBy (namings c t) k) → limits.most_queries < k → k ≤ expr_row c.exprs → n.naming.place < k
      → enclosing_query c t k ≡ enclosing_query c t n.naming.place
  encloses_at_place zero n h l p = absurd (omega arith)
  encloses_at_place (suc k) n h l p =
      enclosing-row c t k h l ∙ rw (n.only, n.up) (enclosing-before c t k n.naming.place (omega arith) (omega arith))

  stands_below : (k : ℕ) → StandsIn c k → k ≤ expr_row c.exprs
  stands_below k (inl s) = let f = few.few-queries in omega (arith, s.1)
  stands_below k (inr (inl s)) = let f = few.few-statements in omega (arith, s.1)
  stands_below k (inr (inr s)) = s.1

  -- ---- a row that is named, and the row that it lies with

  row_named_lem : (k : ℕ) → StandsIn c k → limits.most_queries < k → NamedBy (namings c t) k
  unfolding is_named_so
  row_named_lem k (inl s) h = let f = few.few-queries in absurd (omega (arith, s.1))
  row_named_lem k (inr (inl s)) h =
      let e : statement_row (k - limits.most_queries) ≡ k = omega arith in
      let l = s.1 in
      let f = fine-statement_row c t (k - limits.most_queries) (ok.fine-statement (k - limits.most_queries) (omega arith) (omega arith)) in
      named-row (namings c t) k (subst (λ (j : ℕ). is_named_so c t j ≡ true) e f.named)
  row_named_lem k (inr (inr s)) h =
      let l = s.1 in
      let low = s.0 in
      let e : expr_row (k - 160) ≡ k = omega arith in
      let f = fine-expr_row c t (k - 160) (ok.fine-expr (k - 160) (omega arith) (omega arith)) in
      named-row (namings c t) k (subst (λ (j : ℕ). is_named_so c t j ≡ true) e f.named)

  place_stands : (x : Naming) → Origin c t x → StandsIn c x.place × (x.place ≤ x.by)
  place_stands x (by-query q e a b m d) =
      let p : x.place ≡ q = ap (λ (y : Naming). y.place) d.same ∙ query-place c t q m in
      let w : x.by ≡ q = ap (λ (y : Naming). y.by) d.same in
      (inl (omega arith, omega arith), omega arith)
  place_stands x (by-statement s e a b m d) =
      let p : x.place ≡ statement_row s = ap (λ (y : Naming). y.place) d.same ∙ statement-place c t s m in
      let w : x.by ≡ statement_row s = ap (λ (y : Naming). y.by) d.same in
      (inr (inl (omega arith, omega arith)), omega arith)
  place_stands x (by-expr r e a b m d) = go (bool_cases e.field.term)
    where
      go : (e.field.term ≡ true) ⊎ (e.field.term ≡ false) → StandsIn c x.place × (x.place ≤ x.by)
      go (inl q) =
          let l = (expr-place c t r (fine-expr_row c t r (ok.fine-expr r a b)) m).term q in
          let low = l.0 in
          let high = l.1 in
          let f = few.few-queries in
          let p : x.place ≡ e.place = ap (λ (y : Naming). y.place) d.same in
          let w : x.by ≡ expr_row r = ap (λ (y : Naming). y.by) d.same in
          (inl (omega arith, omega arith), omega arith)
      go (inr q) =
          let l = (expr-place c t r (fine-expr_row c t r (ok.fine-expr r a b)) m).part q in
          let p : x.place ≡ expr_row r = ap (λ (y : Naming). y.place) d.same ∙ l in
          let w : x.by ≡ expr_row r = ap (λ (y : Naming). y.by) d.same in
          (inr (inr (omega arith, omega arith)), omega arith)

  -- ---- every row

  InSheet : ℕ → Type 0
  InSheet k = (1 ≤ enclosing_query c t k) × (enclosing_query c t k ≤ c.queries)

  query_in_sheet : (k : ℕ) → StandsIn c k → k ≤ limits.most_queries → InSheet k
  unfolding InSheet
  query_in_sheet k (inl s) h = let low = s.0 in let high = s.1 in let e = enclosing-query c t k h in (omega arith, omega arith)
  query_in_sheet k (inr (inl s)) h = absurd (omega (arith, s.0))
  query_in_sheet k (inr (inr s)) h = absurd (omega (arith, s.0))

  -- The row that it lies with is smaller.
  row_in-sheet : (k : ℕ) → StandsIn c k → limits.most_queries < k → ((j : ℕ) → j < k → StandsIn c j → InSheet j) → InSheet k
  unfolding InSheet
  row_in-sheet k s h before =
      let x = row_named_lem k s h in
      let p = place_stands x.naming (origin c t x.among) in
      let b = up-below x.naming.by k h x.up in
      let l = p.1 in
      let r = before x.naming.place (omega arith) p.0 in
      let e = encloses_at_place k x h (stands_below k s) (omega arith) in
      let low = r.0 in
      let high = r.1 in
      (omega arith, omega arith)

  pub enclosed : (k : ℕ) → StandsIn c k → (1 ≤ enclosing_query c t k) × (enclosing_query c t k ≤ c.queries)
  unfolding InSheet
  enclosed k s = go (suc k) k (omega arith) s
    where
      go : (n k : ℕ) → k < n → StandsIn c k → InSheet k
      go zero k l s = absurd (omega arith)
      go (suc n) k l s =
          ⊎_elim (λ (h : limits.most_queries < k). row_in-sheet k s h (λ j b. go n j (omega arith))) (λ (h : k ≤ limits.most_queries). query_in_sheet k s h) (lt_cases limits.most_queries k)
