-- Laws of `Levels`.
use mathlib.Core.Path.{◌≡◌, refl, sym, ap, ◌∙◌, subst}
use mathlib.Core.Bool.{true, false}
use mathlib.Core.List.{Memᴰ}
use mathlib.Core.Logic.{◌⊎◌, inl, inr}
use Prim.Native.Nat.{ℕ, zero, suc, ◌+◌, ◌-◌, ◌≤◌, ◌<◌}
use native.Mathlib.Omega.{arith}
use lib.Dec.{ltb}
use borrow.Author.Tests.{eq-eqb, ne_eqb, ltb-true}
use Rattle.std.specs.Prelude.{Option, Some, None}
use Rattle.sheet.specs.declared.fields.Section.{Section}
use Rattle.sheet.specs.declared.fields.Section.TheVariants as section
use Rattle.base.specs.Limits as limits
use Rattle.base.proofs.Laws.Truth.{bool_cases, eq_cases, not-both, and_left}
use Rattle.sheet.specs.declared.Counts.{Counts}
use Rattle.sheet.specs.Inner.Records.{Within}
use Rattle.base.specs.Limits.{nesting}
use Rattle.sheet.specs.Sheet.{Rows}
use Rattle.sheet.specs.Fields.{statement_section, query_section, for_queries}
use Rattle.sheet.specs.Naming.{Entry, statement_row, expr_row, row_in, in_range, target, query_entries, Naming, namings}
use Rattle.sheet.specs.Nesting.{parent, level_in, level, deeper}
use Rattle.sheet.specs.Faults.{is_named_so}
use Rattle.sheet_facts.proofs.Laws.Accepted.{FineRows}
use Rattle.sheet.proofs.Laws.Origins.{target_of, Origin, by-query, by-statement, by-expr, origin}
use Rattle.sheet_facts.specs.Inner.FineFields.{Nests}
use Rattle.sheet.specs.Inner.Enclosing.{enclosing_query}
use Rattle.sheet_facts.proofs.Laws.Rows.{fine-expr_row, fine-statement_row, fine-query_row}
use Rattle.sheet_facts.proofs.Laws.Places.{expr-place}
use Rattle.sheet.proofs.Laws.PlaceLaws.{each, statement-place}
use Rattle.sheet_facts.proofs.Laws.Enclosed.{NamedBy, named-row, enclosed}
use Rattle.sheet_facts.specs.Inner.Levels.{NestedIn}

-- ---- a field that names a query

module _ (c : Counts) where
  row_of-query : (s : Option Section) (v : ℕ) → 0 < v → (row_in s v ≡ 0 → ⊥) → row_in s v ≤ limits.most_queries → (s ≡ query_section) × (row_in s v ≡ v)
  row_of-query None v p n l = absurd (n refl)
  row_of-query (Some section.Name) v p n l = absurd (n refl)
  row_of-query (Some section.Expression) v p n l = absurd (omega arith)
  row_of-query (Some section.Statement) v p n l = absurd (omega arith)
  row_of-query (Some section.Query) v p n l = (refl, refl)

  target_of-query : (e : Entry) (q : ℕ) → (target_of c e ≡ 0 → ⊥) → target_of c e ≡ q → q ≤ limits.most_queries
      → (e.field.section ≡ query_section) × (e.value ≡ q)
  unfolding target
  target_of-query e q n h l = go (bool_cases (in_range c e.field e.value))
    where
      go : (in_range c e.field e.value ≡ true) ⊎ (in_range c e.field e.value ≡ false)
          → (e.field.section ≡ query_section) × (e.value ≡ q)
      go (inl p) =
          let some = ltb-true 0 e.value (and_left (ltb 0 e.value) _ p) in
          let h2 : row_in e.field.section e.value ≡ q = rw p at h in
          let n2 : row_in e.field.section e.value ≡ 0 → ⊥ = rw p at n in
          let r = row_of-query e.field.section e.value some n2 (omega arith) in
          (r.0, sym r.1 ∙ h2)
      go (inr p) = absurd (n (rw p))

  statement-section : (t : Rows) (q : ℕ) {e : Entry} → Memᴰ e (query_entries c t q) → e.field.section ≡ statement_section
  unfolding query_entries
  statement-section t q m = each (λ e. e.field.section ≡ statement_section) _ (refl, tt) m

module _ (c : Counts) (t : Rows) (few : Within c) (ok : FineRows c t) where
  parent_at_place : (q : ℕ) (n : NamedBy (namings c t) q) → parent c t q ≡ enclosing_query c t n.naming.place
  unfolding parent
  parent_at_place q n = rw (n.only, n.up)

  module _ (q : ℕ) (not_first : 1 < q) (in_sheet : q ≤ c.queries) where
    the_naming : NamedBy (namings c t) q
    unfolding is_named_so
    the_naming =
        named-row (namings c t) q ((fine-query_row c t q (ok.fine-query q (omega arith) in_sheet)).named (λ e. omega arith))

    -- By a field of a row in query p, which is nested so.
    nested_in : (p v : ℕ) → v ≡ q → 1 ≤ p → Nests c t p v → parent c t q ≡ p → NestedIn c t q
    nested_in p v e low n same =
        let larger = n.larger in
        record {
          some-parent = omega arith;
          smaller = omega arith;
          shallow = subst (λ (w : ℕ). level c t w < nesting) (sym same) n.shallow;
        }

    pub query-nested : NestedIn c t q
    query-nested = go (origin c t the_naming.among)
      where
        x : Naming
        x = the_naming.naming

        go : Origin c t x → NestedIn c t q
        go (by-query p e a b m d) =
            let small = few.few-queries in
            let to : target_of c e ≡ q = sym (ap (λ (y : Naming). y.to) d.same) ∙ the_naming.to_row in
            let s = (target_of-query c e q d.names to (omega arith)).0 in
            let z = statement-section c t p m in
            absurd (not-both (ap for_queries s) (ap for_queries z))
        go (by-statement s e a b m d) =
            let small = few.few-queries in
            let to : target_of c e ≡ q = sym (ap (λ (y : Naming). y.to) d.same) ∙ the_naming.to_row in
            let w = target_of-query c e q d.names to (omega arith) in
            let value = w.1 in
            let at = ap (λ (y : Naming). y.place) d.same ∙ statement-place c t s m in
            let f = (fine-statement_row c t s (ok.fine-statement s a b)).fields m in
            nested_in (enclosing_query c t (statement_row s)) e.value value (enclosed c t few ok (statement_row s) (inr (inl (omega arith, omega arith)))).0
            (f.nests (omega arith) w.0) (parent_at_place q the_naming ∙ ap (enclosing_query c t) at)
        go (by-expr r e a b m d) =
            let small = few.few-queries in
            let to : target_of c e ≡ q = sym (ap (λ (y : Naming). y.to) d.same) ∙ the_naming.to_row in
            let w = target_of-query c e q d.names to (omega arith) in
            let value = w.1 in
            let row = fine-expr_row c t r (ok.fine-expr r a b) in
            let lies = expr-place c t r row m in
            let at = ap (λ (y : Naming). y.place) d.same ∙ lies.part (lies.no_query w.0) in
            let f = row.fields m in
            nested_in (enclosing_query c t (expr_row r)) e.value value (enclosed c t few ok (expr_row r) (inr (inr (omega arith, omega arith)))).0
            (f.nests (omega arith) w.0) (parent_at_place q the_naming ∙ ap (enclosing_query c t) at)

  -- ---- levels

  -- The level is found in as many steps as the query's number.
  known : (n q : ℕ) → 1 ≤ q → q ≤ n → q ≤ c.queries → 1 ≤ level_in c t n q
  unfolding level_in
  known zero q a b l = absurd (omega arith)
  known (suc n) q a b l = go (eq_cases q 1) (λ p low h. known n p low h)
    where
      deeper-some : (k : ℕ) → 1 ≤ k → 1 ≤ deeper k
      deeper-some zero h = h
      deeper-some (suc k) h = omega arith

      go : (q ≡ 1) ⊎ (q ≡ 1 → ⊥) → ((p : ℕ) → 1 ≤ p → p ≤ n → p ≤ c.queries → 1 ≤ level_in c t n p) → 1 ≤ level_in c t (suc n) q
      go (inl e) ih = rw (eq-eqb q 1 e) (omega arith)
      go (inr e) ih =
          let k = query-nested q (omega arith) l in
          let s = k.smaller in
          rw (ne_eqb q 1 e) (deeper-some _ (ih (parent c t q) k.some-parent (omega arith) (omega arith)))

  -- More steps change nothing.
  settled : (n m q : ℕ) → 1 ≤ q → q ≤ n → q ≤ m → q ≤ c.queries → level_in c t n q ≡ level_in c t m q
  unfolding level_in
  settled zero m q a b d l = absurd (omega arith)
  settled (suc n) zero q a b d l = absurd (omega arith)
  settled (suc n) (suc m) q a b d l = go (eq_cases q 1) (λ p low h k. settled n m p low h k)
    where
      go : (q ≡ 1) ⊎ (q ≡ 1 → ⊥) → ((p : ℕ) → 1 ≤ p → p ≤ n → p ≤ m → p ≤ c.queries → level_in c t n p ≡ level_in c t m p)
          → level_in c t (suc n) q ≡ level_in c t (suc m) q
      go (inl e) ih = rw (eq-eqb q 1 e)
      go (inr e) ih =
          let k = query-nested q (omega arith) l in
          let s = k.smaller in
          rw (ne_eqb q 1 e) (ap deeper (ih (parent c t q) k.some-parent (omega arith) (omega arith) (omega arith)))

  pub first-level : level c t 1 ≡ 1
  unfolding level level_in
  first-level =
      let some = few.some-query in
      let e : c.queries ≡ suc (c.queries - 1) = omega arith in
      ap (λ (n : ℕ). level_in c t n 1) e

  pub next_level : (q : ℕ) → 1 < q → q ≤ c.queries → level c t q ≡ level c t (parent c t q) + 1
  unfolding level level_in
  next_level q a l =
      let n = c.queries - 1 in
      let e : c.queries ≡ suc n = omega arith in
      let k = query-nested q a l in
      let s = k.smaller in
      let low = k.some-parent in
      let h = known n (parent c t q) low (omega arith) (omega arith) in
      ap (λ (m : ℕ). level_in c t m q) e ∙ rw (ne_eqb q 1 (λ z. omega arith))
      (deeper-one _ h ∙ ap (λ (m : ℕ). m + 1) (settled n c.queries (parent c t q) low (omega arith) (omega arith) (omega arith)))
    where
      deeper-one : (k : ℕ) → 1 ≤ k → deeper k ≡ k + 1
      deeper-one zero h = absurd (omega arith)
      deeper-one (suc k) h = omega arith

  -- No query is too deep.
  pub not_deep : (q : ℕ) → 1 < q → q ≤ c.queries → level c t q ≤ nesting
  not_deep q a l = let s = (query-nested q a l).shallow in omega (arith, next_level q a l)
