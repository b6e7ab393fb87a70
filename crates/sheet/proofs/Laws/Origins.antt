-- Which namings there are: those of the fields that name a row, and no others.
use mathlib.Core.Path.{◌≡◌, refl, sym, ap, ◌∙◌, subst}
use mathlib.Core.Bool.{Bool, true, false, ◌||◌, or-false}
use mathlib.Core.List.{List, [], ◌∷◌, ◌++◌, Memᴰ}
use mathlib.Core.Logic.{◌⊎◌, inl, inr, ⊎_elim}
use Prim.Native.Nat.{ℕ, zero, suc, ◌+◌, ◌-◌, ◌≤◌, ◌<◌}
use native.Mathlib.Omega.{arith}
use lib.Dec.{eqb}
use borrow.Author.Tests.{ne_eqb, eqb-false}
use Rattle.base.specs.Limits as limits
use Rattle.base.proofs.Laws.Truth.{bool_cases}
use Rattle.sheet.specs.declared.Counts.{Counts}
use Rattle.sheet.specs.Sheet.{Rows}
use Rattle.sheet.specs.Naming.{Entry, query_row, statement_row, expr_row, target, expr_entries, statement_entries, query_entries, Naming, namers, in_chain, entry_naming, row_namings, by_queries, by_statements, by_exprs, namings}
use Rattle.sheet.specs.Faults.{is_member}
use Rattle.sheet.proofs.Laws.Laws.{namers-append, in_chain-append, row_late}
use Rattle.sheet.proofs.Laws.Stages.{first_in, step_in, step_of}

-- ---- a field and its naming

abbrev pub target_of : Counts → Entry → ℕ
target_of c e = target c e.field e.value

abbrev pub naming_of : Counts → ℕ → Entry → Naming
naming_of c k e = record { by = k; to = target_of c e; place = e.place; chain = e.field.chain }

-- A field of row k makes the naming.
pub record Made (c : Counts) (k : ℕ) (e : Entry) (x : Naming) : Type 0 where
  pub names : target_of c e ≡ 0 → ⊥
  pub same : x ≡ naming_of c k e

module _ (c : Counts) (k : ℕ) where
  entry_makes : (e : Entry) → (target_of c e ≡ 0 → ⊥) → Memᴰ (naming_of c k e) (entry_naming c k e)
  unfolding entry_naming
  entry_makes e n = rw (ne_eqb (target_of c e) 0 n) (mathlib.Core.List.Memᴰ.head refl)

  entry_made : (e : Entry) {x : Naming} → Memᴰ x (entry_naming c k e) → Made c k e x
  unfolding entry_naming
  entry_made e {x} m = go (bool_cases (eqb (target_of c e) 0))
    where
      go : (eqb (target_of c e) 0 ≡ true) ⊎ (eqb (target_of c e) 0 ≡ false) → Made c k e x
      go (inl p) = absurd (mathlib.Core.List.Memᴰ.not-nil (rw p at m))
      go (inr p) = record { names = eqb-false (target_of c e) 0 p; same = mathlib.Core.List.Memᴰ.eq_of_singleton (rw p at m) }

  pub row_makes : (es : List Entry) {e : Entry} → Memᴰ e es → (target_of c e ≡ 0 → ⊥) → Memᴰ (naming_of c k e) (row_namings c k es)
  unfolding row_namings
  row_makes [] m n = absurd (mathlib.Core.List.Memᴰ.not-nil m)
  row_makes (f ∷ es) {e} m n =
      ⊎_elim
      (λ (q : e ≡ f).
      mathlib.Core.List.Memᴰ.append_left (row_namings c k es) (subst (λ (d : Entry). Memᴰ (naming_of c k e) (entry_naming c k d)) q (entry_makes e n)))
      (λ (t : Memᴰ e es). mathlib.Core.List.Memᴰ.append_right (entry_naming c k f) (row_makes es t n)) (mathlib.Core.List.Memᴰ.cases_cons m)

  pub row_made : (es : List Entry) {x : Naming} → Memᴰ x (row_namings c k es) → (e : Entry) × Memᴰ e es × Made c k e x
  unfolding row_namings
  row_made [] m = absurd (mathlib.Core.List.Memᴰ.not-nil m)
  row_made (f ∷ es) {x} m =
      ⊎_elim (λ (p : Memᴰ x (entry_naming c k f)). (f, mathlib.Core.List.Memᴰ.head refl, entry_made f p))
      (λ (p : Memᴰ x (row_namings c k es)). let r = row_made es p in (r.0, mathlib.Core.List.Memᴰ.tail r.1, r.2))
      (mathlib.Core.List.Memᴰ.append_cases (entry_naming c k f) m)

-- ---- all rows

-- The row whose field makes a naming, and the field.
pub data Origin (c : Counts) (t : Rows) (x : Naming) : Type 0 where
  by-query : (q : ℕ) (e : Entry) → 1 ≤ q → q ≤ c.queries → Memᴰ e (query_entries c t q) → Made c (query_row q) e x → Origin c t x
  by-statement : (s : ℕ) (e : Entry) → 1 ≤ s → s ≤ c.statements → Memᴰ e (statement_entries c t s) → Made c (statement_row s) e x
      → Origin c t x
  by-expr : (r : ℕ) (e : Entry) → 1 ≤ r → r ≤ c.exprs → Memᴰ e (expr_entries c t (is_member c t r) r) → Made c (expr_row r) e x
      → Origin c t x

module _ (c : Counts) (t : Rows) where
  -- What each row adds.
  of_query_lem : ℕ → List Naming
  of_query_lem q = row_namings c (query_row q) (query_entries c t q)

  of_statement : ℕ → List Naming
  of_statement s = row_namings c (statement_row s) (statement_entries c t s)

  of_expr_lem : ℕ → List Naming
  of_expr_lem zero = []
  of_expr_lem (suc r) =
      let k = expr_row (suc r) in
      row_namings c k (expr_entries c t (in_chain k (namers k (by_exprs c t r))) (suc r))

  queries-step : (i : ℕ) → by_queries c t (suc i) ≡ by_queries c t i ++ of_query_lem (suc i)
  unfolding by_queries of_query_lem
  queries-step i = refl

  statements-step : (i : ℕ) → by_statements c t (suc i) ≡ by_statements c t i ++ of_statement (suc i)
  unfolding by_statements of_statement
  statements-step i = refl

  exprs-step : (i : ℕ) → by_exprs c t (suc i) ≡ by_exprs c t i ++ of_expr_lem (suc i)
  unfolding by_exprs of_expr_lem
  exprs-step i = refl

  expr_late : (k i : ℕ) → limits.most_queries < k → k ≤ expr_row (suc i) → in_chain k (namers k (of_expr_lem (suc i))) ≡ false
  unfolding of_expr_lem
  expr_late k i h l = row_late c (expr_row (suc i)) k h l _

  -- The rows up to row r settle whether row r + 1 is a member of a chain.
  stays : (r n : ℕ) → in_chain (expr_row (suc r)) (namers (expr_row (suc r)) (by_exprs c t (r + n)))
      ≡ in_chain (expr_row (suc r)) (namers (expr_row (suc r)) (by_exprs c t r))
  stays r zero =
      let e : r + 0 ≡ r = omega arith in
      ap (λ (i : ℕ). in_chain (expr_row (suc r)) (namers (expr_row (suc r)) (by_exprs c t i))) e
  stays r (suc n) =
      let k = expr_row (suc r) in
      let e : r + suc n ≡ suc (r + n) = omega arith in
      let late = expr_late k (r + n) (omega arith) (omega arith) in
      ap (λ (i : ℕ). in_chain k (namers k (by_exprs c t i))) e
      ∙ ap (λ (l : List Naming). in_chain k (namers k l)) (exprs-step (r + n))
      ∙ ap (in_chain k) (namers-append k (by_exprs c t (r + n)) (of_expr_lem (suc (r + n))))
      ∙ in_chain-append k (namers k (by_exprs c t (r + n))) (namers k (of_expr_lem (suc (r + n))))
      ∙ ap (λ (b : Bool). in_chain k (namers k (by_exprs c t (r + n))) || b) late
      ∙ or-false (in_chain k (namers k (by_exprs c t (r + n)))) ∙ stays r n

  pub member_settled : (r : ℕ) → suc r ≤ c.exprs
      → in_chain (expr_row (suc r)) (namers (expr_row (suc r)) (by_exprs c t r)) ≡ is_member c t (suc r)
  unfolding is_member namings
  member_settled r h =
      let e : r + (c.exprs - r) ≡ c.exprs = omega arith in
      sym (stays r (c.exprs - r)) ∙ ap (λ (i : ℕ). in_chain (expr_row (suc r)) (namers (expr_row (suc r)) (by_exprs c t i))) e

  -- ---- what a field names is among the namings

  module _ (e : Entry) (names : target_of c e ≡ 0 → ⊥) where
    pub query-names : (q : ℕ) → suc q ≤ c.queries → Memᴰ e (query_entries c t (suc q)) → Memᴰ (naming_of c (query_row (suc q)) e) (namings c t)
    unfolding namings by_statements by_exprs of_query_lem
    query-names q h m =
        first_in (by_exprs c t) of_expr_lem exprs-step c.exprs
        (first_in (by_statements c t) of_statement statements-step c.statements
        (step_in (by_queries c t) of_query_lem queries-step c.queries q h (row_makes c (query_row (suc q)) _ m names)))

    pub statement-names : (s : ℕ) → suc s ≤ c.statements → Memᴰ e (statement_entries c t (suc s))
        → Memᴰ (naming_of c (statement_row (suc s)) e) (namings c t)
    unfolding namings by_exprs of_statement
    statement-names s h m =
        first_in (by_exprs c t) of_expr_lem exprs-step c.exprs
        (step_in (by_statements c t) of_statement statements-step c.statements s h (row_makes c (statement_row (suc s)) _ m names))

    pub expr-names : (r : ℕ) → suc r ≤ c.exprs → Memᴰ e (expr_entries c t (is_member c t (suc r)) (suc r))
        → Memᴰ (naming_of c (expr_row (suc r)) e) (namings c t)
    unfolding namings of_expr_lem
    expr-names r h m =
        step_in (by_exprs c t) of_expr_lem exprs-step c.exprs r h
        (row_makes c (expr_row (suc r)) _ (subst (λ (b : Bool). Memᴰ e (expr_entries c t b (suc r))) (sym (member_settled r h)) m) names)

  -- ---- and nothing else

  of_query : {x : Naming} (q : ℕ) → suc q ≤ c.queries → Memᴰ x (of_query_lem (suc q)) → Origin c t x
  unfolding of_query_lem
  of_query q h m =
      let f = row_made c (query_row (suc q)) (query_entries c t (suc q)) m in
      by-query (suc q) f.0 (omega arith) h f.1 f.2

  of_statement_lem : {x : Naming} (s : ℕ) → suc s ≤ c.statements → Memᴰ x (of_statement (suc s)) → Origin c t x
  unfolding of_statement
  of_statement_lem s h m =
      let f = row_made c (statement_row (suc s)) (statement_entries c t (suc s)) m in
      by-statement (suc s) f.0 (omega arith) h f.1 f.2

  of_expr : {x : Naming} (r : ℕ) → suc r ≤ c.exprs → Memᴰ x (of_expr_lem (suc r)) → Origin c t x
  unfolding of_expr_lem
  of_expr r h m =
      let f = row_made c (expr_row (suc r)) (expr_entries c t (in_chain (expr_row (suc r)) (namers (expr_row (suc r)) (by_exprs c t r))) (suc r)) m in
      by-expr (suc r) f.0 (omega arith) h (subst (λ (b : Bool). Memᴰ f.0 (expr_entries c t b (suc r))) (member_settled r h) f.1) f.2

  pub origin : {x : Naming} → Memᴰ x (namings c t) → Origin c t x
  unfolding namings by_queries by_statements by_exprs
  origin {x} m =
      ⊎_elim
      (λ (p : Memᴰ x (by_statements c t c.statements)).
      ⊎_elim
      (λ (p : Memᴰ x (by_queries c t c.queries)).
      ⊎_elim (λ (p : Memᴰ x []). absurd (mathlib.Core.List.Memᴰ.not-nil p))
      (λ (p : (q : ℕ) × (suc q ≤ c.queries) × Memᴰ x (of_query_lem (suc q))). of_query p.0 p.1 p.2)
      (step_of (by_queries c t) of_query_lem queries-step c.queries p))
      (λ (p : (s : ℕ) × (suc s ≤ c.statements) × Memᴰ x (of_statement (suc s))). of_statement_lem p.0 p.1 p.2)
      (step_of (by_statements c t) of_statement statements-step c.statements p))
      (λ (p : (r : ℕ) × (suc r ≤ c.exprs) × Memᴰ x (of_expr_lem (suc r))). of_expr p.0 p.1 p.2)
      (step_of (by_exprs c t) of_expr_lem exprs-step c.exprs m)
