-- The fields of an accepted sheet that hold a query, a comprehension's third and an `every`'s body: what they name is worth what the query is.
use mathlib.Core.Path.{◌≡◌, refl, ap, ◌∙◌, subst}
use mathlib.Core.Bool.{Bool, true, false, cond, not, ◌||◌}
use mathlib.Core.List.Memᴰ
use mathlib.Core.List.{List}
use mathlib.Core.Logic.{◌⊎◌, inl, inr, ⊎_elim}
use Prim.Native.Nat.{ℕ, suc, ◌+◌, ◌-◌, ◌≤◌}
use native.Mathlib.Omega.{arith}
use borrow.Author.Tests.{not-true}
use Rattle.sheet.proofs.Laws.FieldSections.{is_section}
use Rattle.sheet.specs.declared.fields.Section.{Section}
use Rattle.std.specs.Prelude.{Option}
use Rattle.base.proofs.Laws.Truth.{bool_cases, not-both, or_cases}
use Rattle.base.specs.Lists.{all, range}
use Rattle.base.proofs.Laws.Lists.{all-elem}
use Rattle.base.proofs.Laws.Ranges.{elem-range}
use Rattle.sheet.specs.declared.Counts.{Counts}
use Rattle.sheet.specs.Inner.Records.{expr_at, statement_row_at}
use Rattle.sheet.specs.declared.fields.Field.{Field}
use Rattle.sheet.specs.Fields.{limit_of, kinds, kind_of, forms, form_of}
use Rattle.sheet_fields.proofs.Laws.Tables.{HoldsQuery, holds_query, holds-query}
use Rattle.sheet.specs.Naming.{Entry, statement_row, expr_row, row_in, expr_entry, statement_entry, expr_entries, statement_entries, entry_naming}
use Rattle.sheet.proofs.Laws.Origins.{target_of}
use Rattle.sheet_facts.proofs.Laws.Accepted.{FineRows}
use Rattle.sheet_facts.specs.Inner.FineFields.{Fine}
use Rattle.sheet_facts.proofs.Laws.Rows.{fine-expr_row, fine-statement_row}
use Rattle.definition_room.proofs.Laws.Sums.{valued, valued-at, worth}
use Rattle.definition_room.proofs.Laws.Worth.{row_worth, entry_worth, statement_worth, expr_worth}
use Rattle.definition_room.proofs.Laws.Listed.{compr_kind}
use Rattle.definition_room.proofs.Laws.Named.{target_row}
use Rattle.sheet.specs.Inner.Rows.{in_tables}

-- ---- the tables of kinds and forms

-- Is the third field of this kind a query, if it is a comprehension's?
kind_test : ℕ → Bool
kind_test kind = not (compr_kind kind) || holds_query (kind_of kind).third

-- So it is of every kind.
kinds-pass : all kind_test (range 0 23) ≡ true
unfolding kind_test range is_section kind_of kinds
kinds-pass = refl

-- A comprehension's third field holds a query.
compr-holds : (kind : ℕ) → kind ≤ 22 → compr_kind kind ≡ true → HoldsQuery (kind_of kind).third
unfolding kind_test
compr-holds kind l p =
    let f = (kind_of kind).third in
    let h = all-elem kind_test (range 0 23) kinds-pass kind (elem-range kind 0 23 (omega arith) (omega arith)) in
    ⊎_elim (λ (n : not (compr_kind kind) ≡ true). absurd (not-both p (not-true _ n)))
    (λ (b : holds_query f ≡ true). holds-query f b)
    (or_cases (not (compr_kind kind)) _ h)

-- An `every` holds one.
every_holds : HoldsQuery (form_of 5).query
unfolding form_of forms
every_holds = (refl, refl)

-- ---- the fields

module _ (c : Counts) (g : ℕ → ℕ) where
  -- Query q is worth g q; but the first, which nothing names, is worth nothing.
  unfoldable pub query_value : ℕ → ℕ
  query_value = valued 1 (λ q. g (suc q)) (c.queries - 1)

  module _ (t : List ℕ) where
    -- A field that holds a query.
    query-field : (k q : ℕ) (f : Field) (v place : ℕ) → let e : Entry = record { field = f; value = v; place = place } in
        Fine c (in_tables t) q e → HoldsQuery f → g v ≤ worth query_value (entry_naming c k e)
    unfolding query_value
    query-field k q f v place fine h =
        let e : Entry = record { field = f; value = v; place = place } in
        let low = fine.is_set h.1 in
        let more = (fine.nests low h.0).not_first in
        let high : v ≤ c.queries = subst (λ (i : Option Section). v ≤ limit_of c i) h.0 fine.in_range in
        let next : v ≡ suc (v - 1) = omega arith in
        let to : target_of c e ≡ 1 + (v - 1) = target_row c k e low fine.in_range ∙ ap (λ (i : Option Section). row_in i v) h.0 ∙ omega arith in
        omega (
          arith,
          entry_worth c query_value k e (1 + (v - 1)) to (omega arith),
          valued-at 1 (λ q. g (suc q)) (c.queries - 1) (v - 1) (omega arith) (omega arith),
          ap g next,
        )

    module _ (ok : FineRows c (in_tables t)) where
      -- What a comprehension names is worth at least its query.
      pub compr-worth : (r : ℕ) → 1 ≤ r → r ≤ c.exprs
          → cond (compr_kind (expr_at t r).kind) (g (expr_at t r).third) 0 ≤ expr_worth c query_value t r
      unfolding expr_worth row_worth expr_entries
      compr-worth r low high = go (bool_cases (compr_kind (expr_at t r).kind))
        where
          go : (compr_kind (expr_at t r).kind ≡ true) ⊎ (compr_kind (expr_at t r).kind ≡ false)
              → cond (compr_kind (expr_at t r).kind) (g (expr_at t r).third) 0 ≤ expr_worth c query_value t r
          go (inl p) =
              let row = fine-expr_row c (in_tables t) r (ok.fine-expr r low high) in
              let f = (kind_of (expr_at t r).kind).third in
              rw p
              (omega (
                arith,
                query-field (expr_row r) _ f (expr_at t r).third _
                    (row.fields {e = expr_entry c (in_tables t) r f (expr_at t r).third}
                    (Memᴰ.tail (Memᴰ.tail (Memᴰ.tail (Memᴰ.head refl))))) (compr-holds _ row.kind_high p),
              ))
          go (inr p) = rw p (omega arith)

      -- And what an `every` names its body.
      pub every-worth : (s : ℕ) → 1 ≤ s → s ≤ c.statements → (statement_row_at t s).form ≡ 5
          → g (statement_row_at t s).query ≤ statement_worth c query_value t s
      unfolding statement_worth row_worth statement_entries
      every-worth s low high five =
          let row = fine-statement_row c (in_tables t) s (ok.fine-statement s low high) in
          let f = (form_of (statement_row_at t s).form).query in
          let holds : HoldsQuery f = rw five every_holds in
          omega (
            arith,
            query-field (statement_row s) _ f (statement_row_at t s).query _
                (row.fields {e = statement_entry c (in_tables t) s f (statement_row_at t s).query} (Memᴰ.head refl)) holds,
          )
