-- Laws of `Lying`.
use mathlib.Core.Path.{◌≡◌, refl, ap, ◌∙◌, subst}
use mathlib.Core.Bool.{true}
use mathlib.Core.List.{List, Memᴰ}
use mathlib.Core.Logic.{◌⊎◌, inl, inr}
use Prim.Native.Nat.{ℕ, zero, suc, ◌≤◌, ◌<◌}
use native.Mathlib.Omega.{arith}
use lib.Dec.{eqb}
use borrow.Author.Tests.{eq-eqb}
use Rattle.sheet.specs.declared.fields.Section.{Section}
use Rattle.std.specs.Prelude.{Option}
use Rattle.base.specs.Limits as limits
use Rattle.base.proofs.Laws.Truth.{lt_cases}
use Rattle.base.proofs.Laws.Members.{mem_filter}
use Rattle.sheet.specs.declared.Counts.{Counts}
use Rattle.sheet.specs.Inner.Records.{Within, first_at}
use Rattle.sheet.specs.Fields.{statement_section, query_section, limit_of, a_statement, or0}
use Rattle.sheet.specs.Naming.{Entry, query_row, statement_row, expr_row, row_in, expr_entries, statement_entries, query_entries, Naming, namers, namings}
use Rattle.sheet.specs.Nesting.{parent}
use Rattle.sheet.specs.Faults.{is_named_so, is_member}
use Rattle.sheet.proofs.Laws.Laws.{only_naming}
use Rattle.sheet.specs.Inner.Enclosing.{enclosing_query}
use Rattle.sheet.proofs.Laws.EnclosingLaws.{enclosing-query}
use Rattle.sheet.proofs.Laws.Origins.{target_of, naming_of, origin, query-names, statement-names, expr-names}
use Rattle.sheet.proofs.Laws.PlaceLaws.{statement-place, naming_placed}
use Rattle.sheet_facts.proofs.Laws.Accepted.{FineRows}
use Rattle.sheet_facts.proofs.Laws.Rows.{fine-expr_row, fine-statement_row, fine-query_row}
use Rattle.sheet_facts.proofs.Laws.Enclosed.{NamedBy, up-below, encloses_at_place}
use Rattle.definition_room.proofs.Laws.Named.{target_row}
use Rattle.sheet.specs.Inner.Rows.{in_tables}
use Rattle.definition_room.proofs.Laws.Listed.{HoldsField}
use Rattle.definition_room.specs.Inner.Lying.{Lies, StatementLies}

module _ (c : Counts) (t : List ℕ) where
  -- Where there is one, it lies there.
  pub lies-there : (q r : ℕ) → 1 ≤ r → Lies c t q r → enclosing_query c (in_tables t) (expr_row r) ≡ q
  lies-there q r l (inl z) = absurd (omega arith)
  lies-there q r l (inr e) = e

  pub statement-there : (q s : ℕ) → 1 ≤ s → StatementLies c t q s → enclosing_query c (in_tables t) (statement_row s) ≡ q
  statement-there q s l (inl z) = absurd (omega arith)
  statement-there q s l (inr e) = e

  module _ (few : Within c) (ok : FineRows c (in_tables t)) where
    -- Nothing else names the row: so this naming says where it lies.
    at_place : (x : Naming) (k : ℕ) → x.to ≡ k → limits.most_queries < k → k ≤ expr_row c.exprs → Memᴰ x (namings c (in_tables t)) → is_named_so c (in_tables t) k ≡ true
        → enclosing_query c (in_tables t) k ≡ enclosing_query c (in_tables t) x.place
    unfolding is_named_so namers
    at_place x k e h l m so =
        let only = only_naming k (namers k (namings c (in_tables t))) so (mem_filter (λ y. eqb y.to k) (namings c (in_tables t)) m (eq-eqb x.to k e)) in
        let n : NamedBy (namings c (in_tables t)) k = record { naming = x; among = m; to_row = e; only = only.0; up = only.1 } in
        encloses_at_place c (in_tables t) few ok k n h l (omega (arith, (naming_placed c (in_tables t) few (origin c (in_tables t) m)).below, up-below x.by k h only.1))

    -- The same of a query.
    parent-at : (x : Naming) (q : ℕ) → x.to ≡ q → Memᴰ x (namings c (in_tables t)) → is_named_so c (in_tables t) q ≡ true
        → parent c (in_tables t) q ≡ enclosing_query c (in_tables t) x.place
    unfolding is_named_so namers parent
    parent-at x q e m so =
        let only = only_naming q (namers q (namings c (in_tables t))) so (mem_filter (λ y. eqb y.to q) (namings c (in_tables t)) m (eq-eqb x.to q e)) in
        rw (only.0, only.1)

    -- ---- a field of row k, whose namings are among those of the sheet

    module _ (k : ℕ) (e : Entry) (among : (target_of c e ≡ 0 → ⊥) → Memᴰ (naming_of c k e) (namings c (in_tables t)))
        (within : e.value ≤ limit_of c e.field.section) where
      expr-at : HoldsField e.field → Lies c t (enclosing_query c (in_tables t) e.place) e.value
      expr-at s = go s (lt_cases 0 e.value)
        where
          go : HoldsField e.field → (0 < e.value) ⊎ (e.value ≤ 0)
              → Lies c t (enclosing_query c (in_tables t) e.place) e.value
          go h (inr l) = inl (omega arith)
          go (inr h) (inl l) = let z : e.value ≤ 0 = subst (λ (i : Option Section). e.value ≤ limit_of c i) h within in absurd (omega arith)
          go (inl h) (inl l) =
              let high : e.value ≤ c.exprs = subst (λ (i : Option Section). e.value ≤ limit_of c i) h within in
              let to : target_of c e ≡ expr_row e.value = target_row c k e l within ∙ ap (λ (i : Option Section). row_in i e.value) h in
              inr (at_place (naming_of c k e) (expr_row e.value) to (omega arith) (omega arith) (among (λ z. omega arith))
              (fine-expr_row c (in_tables t) e.value (ok.fine-expr e.value l high)).named)

      query-at : e.field.section ≡ query_section → 1 < e.value → parent c (in_tables t) e.value ≡ enclosing_query c (in_tables t) e.place
      query-at h low =
          let high : e.value ≤ c.queries = subst (λ (i : Option Section). e.value ≤ limit_of c i) h within in
          let to : target_of c e ≡ e.value = target_row c k e (omega arith) within ∙ ap (λ (i : Option Section). row_in i e.value) h in
          parent-at (naming_of c k e) e.value to (among (λ z. omega arith))
          ((fine-query_row c (in_tables t) e.value (ok.fine-query e.value (omega arith) high)).named (λ z. omega arith))

      statement-at : e.field.section ≡ statement_section → StatementLies c t (enclosing_query c (in_tables t) e.place) e.value
      statement-at h = go (lt_cases 0 e.value)
        where
          go : (0 < e.value) ⊎ (e.value ≤ 0) → StatementLies c t (enclosing_query c (in_tables t) e.place) e.value
          go (inr l) = inl (omega arith)
          go (inl l) =
              let high : e.value ≤ c.statements = subst (λ (i : Option Section). e.value ≤ limit_of c i) h within in
              let to : target_of c e ≡ statement_row e.value = target_row c k e l within ∙ ap (λ (i : Option Section). row_in i e.value) h in
              inr (at_place (naming_of c k e) (statement_row e.value) to (omega arith) (omega (arith, few.few-statements))
              (among (λ z. omega arith)) (fine-statement_row c (in_tables t) e.value (ok.fine-statement e.value l high)).named)

    -- ---- row by row

    -- An expression that expression r names lies where the field puts it.
    pub in_expr : (r : ℕ) → 1 ≤ r → r ≤ c.exprs → {e : Entry} → Memᴰ e (expr_entries c (in_tables t) (is_member c (in_tables t) r) r)
        → HoldsField e.field → Lies c t (enclosing_query c (in_tables t) e.place) e.value
    in_expr zero a b m s = absurd (omega arith)
    in_expr (suc r) a b {e} m s =
        expr-at (expr_row (suc r)) e (λ n. expr-names c (in_tables t) e n r b m)
        ((fine-expr_row c (in_tables t) (suc r) (ok.fine-expr (suc r) a b)).fields m).in_range s

    -- A query that a field of row r names is nested in the query where the field puts it.
    pub query_in_expr : (r : ℕ) → 1 ≤ r → r ≤ c.exprs → {e : Entry} → Memᴰ e (expr_entries c (in_tables t) (is_member c (in_tables t) r) r)
        → e.field.section ≡ query_section → 1 < e.value → parent c (in_tables t) e.value ≡ enclosing_query c (in_tables t) e.place
    query_in_expr zero a b m h l = absurd (omega arith)
    query_in_expr (suc r) a b {e} m h l =
        query-at (expr_row (suc r)) e (λ n. expr-names c (in_tables t) e n r b m)
        ((fine-expr_row c (in_tables t) (suc r) (ok.fine-expr (suc r) a b)).fields m).in_range h l

    pub query_in_statement : (s : ℕ) → 1 ≤ s → s ≤ c.statements → {e : Entry} → Memᴰ e (statement_entries c (in_tables t) s)
        → e.field.section ≡ query_section → 1 < e.value → parent c (in_tables t) e.value ≡ enclosing_query c (in_tables t) (statement_row s)
    query_in_statement zero a b m h l = absurd (omega arith)
    query_in_statement (suc s) a b {e} m h l =
        query-at (statement_row (suc s)) e (λ n. statement-names c (in_tables t) e n s b m)
        ((fine-statement_row c (in_tables t) (suc s) (ok.fine-statement (suc s) a b)).fields m).in_range h l
        ∙ ap (enclosing_query c (in_tables t)) (statement-place c (in_tables t) (suc s) m)

    -- One that statement s names lies where s does.
    pub in_statement : (s : ℕ) → 1 ≤ s → s ≤ c.statements → {e : Entry} → Memᴰ e (statement_entries c (in_tables t) s)
        → HoldsField e.field → Lies c t (enclosing_query c (in_tables t) (statement_row s)) e.value
    in_statement zero a b m h = absurd (omega arith)
    in_statement (suc s) a b {e} m h =
        subst (λ (k : ℕ). Lies c t (enclosing_query c (in_tables t) k) e.value) (statement-place c (in_tables t) (suc s) m)
        (expr-at (statement_row (suc s)) e (λ n. statement-names c (in_tables t) e n s b m)
        ((fine-statement_row c (in_tables t) (suc s) (ok.fine-statement (suc s) a b)).fields m).in_range h)

    -- So does the statement after it.
    pub after-statement : (s : ℕ) → 1 ≤ s → s ≤ c.statements → {e : Entry} → Memᴰ e (statement_entries c (in_tables t) s)
        → e.field.section ≡ statement_section → StatementLies c t (enclosing_query c (in_tables t) (statement_row s)) e.value
    after-statement zero a b m h = absurd (omega arith)
    after-statement (suc s) a b {e} m h =
        subst (λ (k : ℕ). StatementLies c t (enclosing_query c (in_tables t) k) e.value) (statement-place c (in_tables t) (suc s) m)
        (statement-at (statement_row (suc s)) e (λ n. statement-names c (in_tables t) e n s b m)
        ((fine-statement_row c (in_tables t) (suc s) (ok.fine-statement (suc s) a b)).fields m).in_range h)

    -- The first statement of a query lies in it.
    pub in_query : (q : ℕ) → 1 ≤ q → q ≤ c.queries → StatementLies c t q (first_at t q)
    unfolding query_entries
    in_query zero a b = absurd (omega arith)
    in_query (suc q) a b =
        let e : Entry = record { field = or0 a_statement; value = first_at t (suc q); place = query_row (suc q) } in
        let m : Memᴰ e (query_entries c (in_tables t) (suc q)) = mathlib.Core.List.Memᴰ.head refl in
        subst (λ (p : ℕ). StatementLies c t p (first_at t (suc q))) (enclosing-query c (in_tables t) (suc q) (omega (arith, few.few-queries)))
        (statement-at (query_row (suc q)) e (λ n. query-names c (in_tables t) e n q b m)
        ((fine-query_row c (in_tables t) (suc q) (ok.fine-query (suc q) (omega arith) b)).fields m).in_range refl)
