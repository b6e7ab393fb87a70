-- Laws of `Queries`.
use mathlib.Core.Path.{◌≡◌, refl, sym, subst}
use mathlib.Core.Bool.{Bool, true, false, ◌&&◌}
use mathlib.Core.List.{List, [], ◌∷◌, foldl, foldl-append}
use mathlib.Core.Logic.{⊎_elim}
use Prim.Native.Nat.{ℕ, zero, suc, ◌≤◌, ◌<◌}
use native.Mathlib.Omega.{arith}
use lib.ListN.{get_or}
use Rattle.sheet.proofs.Laws.FieldSections.{is_section, section-is}
use Rattle.std.specs.Prelude.{None}
use Rattle.base.proofs.Laws.Truth.{and_left, and_right, or_cases}
use Rattle.base.specs.Lists.{all}
use Rattle.base.proofs.Laws.Members.{all_get_d}
use Rattle.sheet.specs.declared.Statement.{Statement}
use Rattle.sheet.specs.Inner.Records.{statement_row_at, first_at}
use Rattle.sheet.specs.declared.fields.Field.{Field}
use Rattle.sheet.specs.declared.fields.FormFields.{FormFields}
use Rattle.sheet.specs.Fields.{expr_section, limit_of, no_form, forms, form_of}
use Rattle.sheet.specs.Inner.Sheet.{sheet_of}
use Rattle.scope.specs.Trees.{tree_at, chain}
use Rattle.scope.specs.Statements.{Stmt, literal_of, stmts_of}
use Rattle.scope.proofs.Laws.StatementWalks as walks
use Rattle.scope.specs.Scopes.{no_scope}
use Rattle.scope.specs.Gather.{gather_vars, gather_stmt, gather_local_vars}
use Rattle.scope_walk.proofs.Laws.RowTrees.{rows_at, part_field, statement-is, statements-length, statements_onwards}
use Rattle.scope_walk.proofs.Laws.Onwards.{left_falls, onward_low}
use Rattle.scope_state.specs.declared.Scope.{Scope}
use Rattle.scope_walk.specs.Inner.Sheets.{counts_at, sheet_at, Accepted, special_at, expr_count, query_count, statement_count}
use Rattle.scope_state.specs.Inner.Agrees.{NoNames, WithoutLocals}
use Rattle.scope_state.specs.Inner.Spans.{Agrees}
use Rattle.scope_state.proofs.Laws.Spans.{agrees-none, agrees_without}
use Rattle.scope_state.specs.Inner.Chains.{chain_at, VarsEach}
use Rattle.scope_gather.specs.Inner.Statements.{NamedParts, StmtStep}
use Rattle.scope_gather.specs.Inner.Queries.{stmts_at_row, stmts_left, StmtsStep, Gathered}

-- ---- what the table of forms says: the first three fields are expressions

expr_fields : FormFields → Bool
expr_fields fs = part_field fs.first && (part_field fs.second && part_field fs.third)

forms_have : all expr_fields forms ≡ true
unfolding expr_fields part_field is_section forms
forms_have = refl

none_have : expr_fields no_form ≡ true
unfolding expr_fields part_field is_section
none_have = refl

form-has : (form : ℕ) → expr_fields (form_of form) ≡ true
unfolding form_of
form-has form = all_get_d expr_fields forms no_form forms_have none_have form

module _ (t : List ℕ) where
  expr-low : (f : Field) (v : ℕ) → part_field f ≡ true → v ≤ limit_of (counts_at t) f.section → v ≤ expr_count t
  unfolding part_field
  expr-low f v p h = ⊎_elim none-low some-low (or_cases (is_section f.section None) (is_section f.section expr_section) p)
    where
      none-low : is_section f.section None ≡ true → v ≤ expr_count t
      none-low q = let low : v ≤ limit_of (counts_at t) None = rw (section-is f.section None q) at h in omega arith

      some-low : is_section f.section expr_section ≡ true → v ≤ expr_count t
      some-low q = let low : v ≤ limit_of (counts_at t) expr_section = rw (section-is f.section expr_section q) at h in low

  -- The statement at a row.
  abbrev pub stmt_at_row : ℕ → Stmt
  stmt_at_row row = record { literal = literal_of (sheet_at t) (statement_row_at t row); with_mods = chain (tree_at (sheet_at t) (statement_row_at t row).with) }

  module _ (ok : Accepted t) where
    pub named-at : (row : ℕ) → (row ≡ 0 → ⊥) → row ≤ statement_count t → NamedParts t (statement_row_at t row)
    unfolding expr_fields
    named-at row there high =
        let k = ok.facts.statement row (omega arith) high in
        let fs = form_of (statement_row_at t row).form in
        let p = form-has (statement_row_at t row).form in
        let q = and_right (part_field fs.first) _ p in
        record {
          first = expr-low fs.first _ (and_left (part_field fs.first) _ p) k.in_first.in_range;
          second = expr-low fs.second _ (and_left (part_field fs.second) _ q) k.in_second.in_range;
          third = expr-low fs.third _ (and_right (part_field fs.second) _ q) k.in_third.in_range;
          with = k.in_with;
        }

    -- ---- the chain of statements

    pub stmts_at-none : stmts_at_row t 0 ≡ []
    unfolding walks.stmts_at
    stmts_at-none = walks.stmts_none (sheet_at t)

    pub stmts_at-row : (row : ℕ) → (row ≡ 0 → ⊥) → row ≤ statement_count t → stmts_at_row t row ≡ stmt_at_row row ∷ (stmts_at_row t) (statement_row_at t row).next
    unfolding sheet_at walks.stmts_at walks.stmt_at
    stmts_at-row row there high =
        rw (statement-is (counts_at t) (special_at t) t row (omega arith) high) at
        (walks.stmts_row (sheet_at t) (statements_onwards (counts_at t) (special_at t) t ok.facts) row there
        (omega (arith, high, statements-length (counts_at t) (special_at t) t)))

    -- The call on the next statement.
    pub next_stmt : (row m : ℕ) → (row ≡ 0 → ⊥) → row ≤ statement_count t → stmts_left t row ≡ m → (st : Statement) → st ≡ statement_row_at t row
        → (stmts_left t st.next < m) × (st.next ≤ statement_count t)
    next_stmt row m there high e st is =
        let on = (ok.facts.statement row (omega arith) high).next in
        rw is (subst (λ (n : ℕ). stmts_left t (statement_row_at t row).next < n) e (left_falls (statement_count t) row _ (omega arith) high on), onward_low (statement_count t) row _ on)

  module _ (outer : List ℕ) where
    pub step-none : Accepted t → (row : ℕ) → row ≡ 0 → (k : Scope) (l : List ℕ) → StmtsStep t outer row k l k l
    step-none ok row z k l parents o s a = rw (z, stmts_at-none ok) a

    pub step_row : Accepted t → (row : ℕ) → (row ≡ 0 → ⊥) → row ≤ statement_count t → (st : Statement) → st ≡ statement_row_at t row
        → (k s₀ s₁ : Scope) (l l₀ l₁ : List ℕ) → StmtStep t outer st k l s₀ l₀ → StmtsStep t outer st.next s₀ l₀ s₁ l₁ → StmtsStep t outer row k l s₁ l₁
    step_row ok row there high st is k s₀ s₁ l l₀ l₁ h₀ h₁ parents o s a =
        let here = subst (λ (v : Statement). StmtStep t outer v k l s₀ l₀) is h₀ in
        let on = subst (λ (v : Statement). StmtsStep t outer v.next s₀ l₀ s₁ l₁) is h₁ in
        subst (λ (ss : List Stmt). Agrees s₁ l₁ (foldl (gather_stmt (sheet_at t) parents) s ss)) (sym (stmts_at-row ok row there high))
        (on parents o _ (here parents o s a))

    pub first_statement_is : (q : ℕ) → 1 ≤ q → q ≤ query_count t → get_or (0 ∷ (sheet_at t).queries) q 0 ≡ first_at t q
    unfolding sheet_at sheet_of
    first_statement_is zero a b = absurd (omega arith)
    first_statement_is (suc q) a b = rows_at (first_at t) (query_count t) q 0 b

    pub first_statement_low : Accepted t → (q : ℕ) → 1 ≤ q → q ≤ query_count t → first_at t q ≤ statement_count t
    first_statement_low ok q a b = (ok.facts.query q a b).in_first

    pub gathered : (q : ℕ) → 1 ≤ q → q ≤ query_count t → (row : ℕ) → row ≡ first_at t q → (key value : ℕ) (k s₀ s₁ s₂ r : Scope) (l l₀ l₁ l₂ : List ℕ)
        → NoNames k → StmtsStep t outer row k l s₀ l₀ → VarsEach t outer key false s₀ l₀ s₁ l₁ → VarsEach t outer value false s₁ l₁ s₂ l₂
        → WithoutLocals s₂ r → Gathered t outer q key value r l₂
    unfolding gather_local_vars stmts_of
    gathered q low high row is key value k s₀ s₁ s₂ r l l₀ l₁ l₂ empty h₀ h₁ h₂ last parents o =
        let h = h₂ parents o _ (h₁ parents o _ (h₀ parents o _ (agrees-none k l empty))) in
        rw (first_statement_is q low high, sym is, foldl-append (gather_vars (sheet_at t) parents false) (foldl (gather_stmt (sheet_at t) parents) no_scope (stmts_at_row t row)) (chain_at t key) (chain_at t value))
        (agrees_without s₂ l₂ r _ h last)
