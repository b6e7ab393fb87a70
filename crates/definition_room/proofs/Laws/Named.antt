-- In an accepted sheet, what a row names is worth what its parts are.
use mathlib.Core.Path.{◌≡◌, refl, ap, ◌∙◌, subst}
use mathlib.Core.Bool.{Bool, true, false, cond}
use mathlib.Core.List.{List, Memᴰ}
use mathlib.Core.Logic.{◌⊎◌, inl, inr}
use Prim.Native.Nat.{ℕ, ◌≤◌, ◌<◌}
use native.Mathlib.Omega.{arith}
use borrow.Author.Tests.{le-leb, lt-ltb}
use Rattle.sheet.specs.declared.fields.Section.{Section}
use Rattle.std.specs.Prelude.{Option, None}
use Rattle.base.proofs.Laws.Truth.{not-both, lt_cases}
use Rattle.sheet.specs.declared.Counts.{Counts}
use Rattle.sheet.specs.Inner.Records.{expr_at, statement_row_at, first_at}
use Rattle.sheet.specs.declared.fields.Field.{Field}
use Rattle.sheet.specs.Fields.{expr_section, statement_section, limit_of, a_chain, a_statement, or0, kind_of, form_of}
use Rattle.sheet.specs.Naming.{Entry, query_row, statement_row, expr_row, row_in, target, next_field, expr_entry, statement_entry, expr_entries, statement_entries, query_entries, entry_naming}
use Rattle.sheet.specs.Faults.{is_member}
use Rattle.sheet.proofs.Laws.Origins.{target_of}
use Rattle.sheet_facts.proofs.Laws.Accepted.{FineRows}
use Rattle.sheet_facts.proofs.Laws.Rows.{fine-expr_row, fine-statement_row, fine-query_row}
use Rattle.definition_room.proofs.Laws.Sums.{valued, valued-at, worth}
use Rattle.definition_room.proofs.Laws.Worth.{row_worth, entry_worth, query_worth, statement_worth, expr_worth}
use Rattle.definition_room.proofs.Laws.Listed.{compr_kind, kind_holds, form-holds}
use Rattle.definition_room.proofs.Laws.Parts.{parts_at, wholes_at}
use Rattle.sheet.specs.Inner.Rows.{in_tables}

module _ (c : Counts) (k : ℕ) where
  -- The row that a field in range names.
  pub target_row : (e : Entry) → 1 ≤ e.value → e.value ≤ limit_of c e.field.section → target_of c e ≡ row_in e.field.section e.value
  unfolding target
  target_row e a b = rw (lt-ltb 0 e.value a, le-leb e.value (limit_of c e.field.section) b)

  module _ (g : ℕ → ℕ) (none : g 0 ≡ 0) (e : Entry) (within : e.value ≤ limit_of c e.field.section) where
    -- A field that holds an expression, or nothing.
    expr-field : (e.field.section ≡ expr_section) ⊎ (e.field.section ≡ None)
        → g e.value ≤ worth (valued 160 g c.exprs) (entry_naming c k e)
    expr-field s = go s (lt_cases 0 e.value)
      where
        go : (e.field.section ≡ expr_section) ⊎ (e.field.section ≡ None) → (0 < e.value) ⊎ (e.value ≤ 0)
            → g e.value ≤ worth (valued 160 g c.exprs) (entry_naming c k e)
        go h (inr l) = let z : e.value ≡ 0 = omega arith in omega (arith, none, ap g z)
        go (inr h) (inl l) = let z : e.value ≤ 0 = subst (λ (i : Option Section). e.value ≤ limit_of c i) h within in absurd (omega arith)
        go (inl h) (inl l) =
            let high : e.value ≤ c.exprs = subst (λ (i : Option Section). e.value ≤ limit_of c i) h within in
            let to : target_of c e ≡ expr_row e.value = target_row e l within ∙ ap (λ (i : Option Section). row_in i e.value) h in
            omega (
              arith,
              entry_worth c (valued 160 g c.exprs) k e (expr_row e.value) to (omega arith),
              valued-at 160 g c.exprs e.value l high,
            )

    -- A field that holds a statement.
    statement-field : e.field.section ≡ statement_section → g e.value ≤ worth (valued 32 g c.statements) (entry_naming c k e)
    statement-field h = go (lt_cases 0 e.value)
      where
        go : (0 < e.value) ⊎ (e.value ≤ 0) → g e.value ≤ worth (valued 32 g c.statements) (entry_naming c k e)
        go (inr l) = let z : e.value ≡ 0 = omega arith in omega (arith, none, ap g z)
        go (inl l) =
            let high : e.value ≤ c.statements = subst (λ (i : Option Section). e.value ≤ limit_of c i) h within in
            let to : target_of c e ≡ statement_row e.value = target_row e l within ∙ ap (λ (i : Option Section). row_in i e.value) h in
            omega (
              arith,
              entry_worth c (valued 32 g c.statements) k e (statement_row e.value) to (omega arith),
              valued-at 32 g c.statements e.value l high,
            )

pub next-holds : (b : Bool) → ((next_field b).section ≡ expr_section) ⊎ ((next_field b).section ≡ None)
next-holds true = inl refl
next-holds false = inr refl

module _ (c : Counts) (g : ℕ → ℕ) where
  -- Expression r is worth g r.
  unfoldable pub expr_value : ℕ → ℕ
  expr_value = valued 160 g c.exprs

  -- Statement s is worth g s.
  unfoldable pub statement_value : ℕ → ℕ
  statement_value = valued 32 g c.statements

  module _ (t : List ℕ) (none : g 0 ≡ 0) (ok : FineRows c (in_tables t)) where
    -- ---- the fields of an expression

    module _ (r : ℕ) (low : 1 ≤ r) (high : r ≤ c.exprs) where
      expr-part : (f : Field) (v : ℕ) → Memᴰ (expr_entry c (in_tables t) r f v) (expr_entries c (in_tables t) (is_member c (in_tables t) r) r)
          → (f.section ≡ expr_section) ⊎ (f.section ≡ None)
          → g v ≤ worth expr_value (entry_naming c (expr_row r) (expr_entry c (in_tables t) r f v))
      unfolding expr_value
      expr-part f v m h =
          expr-field c (expr_row r) g none (expr_entry c (in_tables t) r f v)
          ((fine-expr_row c (in_tables t) r (ok.fine-expr r low high)).fields m).in_range h

      -- The third is an expression where the row is no comprehension.
      third-part : (f : Field) (v : ℕ) → Memᴰ (expr_entry c (in_tables t) r f v) (expr_entries c (in_tables t) (is_member c (in_tables t) r) r) → (compr : Bool)
          → (compr ≡ true) ⊎ ((f.section ≡ expr_section) ⊎ (f.section ≡ None))
          → g (cond compr 0 v) ≤ worth expr_value (entry_naming c (expr_row r) (expr_entry c (in_tables t) r f v))
      third-part f v m true h = omega (arith, none)
      third-part f v m false (inl p) = absurd (not-both p refl)
      third-part f v m false (inr h) = expr-part f v m h

      -- What an expression names is worth at least its parts.
      pub expr-worth : parts_at t g r ≤ expr_worth c expr_value t r
      unfolding parts_at expr_worth row_worth expr_entries
      expr-worth =
          let e = expr_at t r in
          let fs = kind_of e.kind in
          let holds = kind_holds e.kind (fine-expr_row c (in_tables t) r (ok.fine-expr r low high)).kind_high in
          omega (
            arith,
            expr-part fs.first e.first (Memᴰ.tail (Memᴰ.head refl)) holds.in_first,
            expr-part fs.second e.second (Memᴰ.tail (Memᴰ.tail (Memᴰ.head refl))) holds.in_second,
            third-part fs.third e.third (Memᴰ.tail (Memᴰ.tail (Memᴰ.tail (Memᴰ.head refl))))
                (compr_kind e.kind) holds.in_third,
            expr-part (next_field (is_member c (in_tables t) r)) e.next
                (Memᴰ.tail (Memᴰ.tail (Memᴰ.tail (Memᴰ.tail (Memᴰ.head refl))))) (next-holds (is_member c (in_tables t) r)),
          )

    -- ---- the fields of a statement

    module _ (s : ℕ) (low : 1 ≤ s) (high : s ≤ c.statements) where
      whole_part : (f : Field) (v : ℕ) → Memᴰ (statement_entry c (in_tables t) s f v) (statement_entries c (in_tables t) s)
          → (f.section ≡ expr_section) ⊎ (f.section ≡ None)
          → g v ≤ worth expr_value (entry_naming c (statement_row s) (statement_entry c (in_tables t) s f v))
      unfolding expr_value
      whole_part f v m h =
          expr-field c (statement_row s) g none (statement_entry c (in_tables t) s f v)
          ((fine-statement_row c (in_tables t) s (ok.fine-statement s low high)).fields m).in_range h

      -- So is what a statement names of the expressions.
      pub statement-worth : wholes_at t g s ≤ statement_worth c expr_value t s
      unfolding wholes_at statement_worth row_worth statement_entries
      statement-worth =
          let st = statement_row_at t s in
          let fs = form_of st.form in
          let holds = form-holds st.form (fine-statement_row c (in_tables t) s (ok.fine-statement s low high)).form-high in
          omega (
            arith,
            whole_part fs.first st.first (Memᴰ.tail (Memᴰ.head refl)) holds.in_first,
            whole_part fs.second st.second (Memᴰ.tail (Memᴰ.tail (Memᴰ.head refl))) holds.in_second,
            whole_part fs.third st.third (Memᴰ.tail (Memᴰ.tail (Memᴰ.tail (Memᴰ.head refl)))) holds.in_third,
            whole_part (or0 a_chain) st.with
                (Memᴰ.tail (Memᴰ.tail (Memᴰ.tail (Memᴰ.tail (Memᴰ.head refl))))) (inl refl),
          )

      next-part : (f : Field) (v : ℕ) → Memᴰ (statement_entry c (in_tables t) s f v) (statement_entries c (in_tables t) s) → f.section ≡ statement_section
          → g v ≤ worth statement_value (entry_naming c (statement_row s) (statement_entry c (in_tables t) s f v))
      unfolding statement_value
      next-part f v m h =
          statement-field c (statement_row s) g none (statement_entry c (in_tables t) s f v)
          ((fine-statement_row c (in_tables t) s (ok.fine-statement s low high)).fields m).in_range h

      -- And of the statements.
      pub next-worth : g (statement_row_at t s).next ≤ statement_worth c statement_value t s
      unfolding statement_worth row_worth statement_entries
      next-worth =
          omega (
            arith,
            next-part (or0 a_statement) (statement_row_at t s).next
                (Memᴰ.tail (Memᴰ.tail (Memᴰ.tail (Memᴰ.tail (Memᴰ.tail (Memᴰ.head refl)))))) refl,
          )

    -- ---- the field of a query

    pub query-worth : (q : ℕ) → 1 ≤ q → q ≤ c.queries → g (first_at t q) ≤ query_worth c statement_value t q
    unfolding query_worth row_worth query_entries statement_value
    query-worth q low high =
        let e : Entry = record { field = or0 a_statement; value = first_at t q; place = query_row q } in
        omega (
          arith,
          statement-field c (query_row q) g none e
              ((fine-query_row c (in_tables t) q (ok.fine-query q low high)).fields {e = e} (Memᴰ.head refl)).in_range refl,
        )
