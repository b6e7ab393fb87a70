-- Which query the rows lie in that a statement or a query names: where the statement lies, and in the query. The key and the value of an
-- `every` lie where it does, as its domain does; its body is a later query.
use mathlib.Core.Path.{◌≡◌, refl, ap, ◌∙◌, subst}
use mathlib.Core.Bool.{true}
use mathlib.Core.List.{List, Memᴰ}
use mathlib.Core.Logic.{inl}
use Prim.Native.Nat.{ℕ, ◌+◌, ◌≤◌}
use Rattle.sheet.specs.declared.fields.Section.{Section}
use Rattle.std.specs.Prelude.{Option}
use Rattle.sheet.specs.declared.Counts.{Counts}
use Rattle.sheet.specs.declared.Statement.{Statement}
use Rattle.sheet.specs.Inner.Records.{Within, statement_row_at, first_at}
use Rattle.sheet.specs.declared.fields.Field.{Field}
use Rattle.sheet.specs.Fields.{query_section, limit_of, a_chain, a_statement, or0, forms, form_of}
use Rattle.sheet.specs.Naming.{statement_row, statement_entry, statement_entries}
use Rattle.sheet.specs.Faults.{first_line}
use Rattle.sheet.specs.Inner.Enclosing.{enclosing_query}
use Rattle.sheet_facts.proofs.Laws.Accepted.{fine-rows}
use Rattle.sheet_facts.specs.Inner.FineFields.{Nests}
use Rattle.sheet_facts.proofs.Laws.Rows.{FineStatement, fine-statement_row}
use Rattle.definition_room.proofs.Laws.Listed.{form-holds, HoldsField}
use Rattle.sheet.specs.Nesting.{level}
use Rattle.sheet_facts.proofs.Laws.Levels.{next_level}
use Rattle.definition_room.specs.Inner.Lying.{Lies, StatementLies}
use Rattle.definition_room.proofs.Laws.Lying.{in_statement, after-statement, in_query, query_in_statement}
use Rattle.sheet.specs.Inner.Rows.{in_tables}

-- All that a statement of query q names lies in q, but for the query of an `every`.
pub record StatementInside (c : Counts) (t : List ℕ) (q : ℕ) (st : Statement) : Type 0 where
  pub first : Lies c t q st.first
  pub second : Lies c t q st.second
  pub third : Lies c t q st.third
  pub with : Lies c t q st.with
  pub next : StatementLies c t q st.next

-- Form 5 is `every`, and has a query.
every-query : (form : ℕ) → form ≡ 5 → ((form_of form).query.section ≡ query_section) × ((form_of form).query.set ≡ true)
unfolding form_of forms
every-query form e = rw e (refl, refl)

module _ (c : Counts) (t : List ℕ) (few : Within c) (fine : first_line c (in_tables t) ≡ 0) where
  -- The first statement of a query.
  pub first-lies : (q : ℕ) → 1 ≤ q → q ≤ c.queries → StatementLies c t q (first_at t q)
  first-lies = in_query c t few (fine-rows c (in_tables t) fine)

  module _ (q s : ℕ) (low : 1 ≤ s) (high : s ≤ c.statements) (here : enclosing_query c (in_tables t) (statement_row s) ≡ q) where
    part_lies : (f : Field) (v : ℕ) → Memᴰ (statement_entry c (in_tables t) s f v) (statement_entries c (in_tables t) s) → HoldsField f → Lies c t q v
    part_lies f v m h = subst (λ (i : ℕ). Lies c t i v) here (in_statement c t few (fine-rows c (in_tables t) fine) s low high m h)

    row : FineStatement c (in_tables t) s
    row = fine-statement_row c (in_tables t) s ((fine-rows c (in_tables t) fine).fine-statement s low high)

    pub statement-lies : StatementInside c t q (statement_row_at t s)
    unfolding statement_entries
    statement-lies =
        let fs = form_of (statement_row_at t s).form in
        let holds = form-holds (statement_row_at t s).form row.form-high in
        let last = mathlib.Core.List.Memᴰ.tail (mathlib.Core.List.Memᴰ.tail (mathlib.Core.List.Memᴰ.tail (mathlib.Core.List.Memᴰ.tail (mathlib.Core.List.Memᴰ.tail (mathlib.Core.List.Memᴰ.head refl))))) in
        record {
          first = part_lies fs.first _ (mathlib.Core.List.Memᴰ.tail (mathlib.Core.List.Memᴰ.head refl)) holds.in_first;
          second = part_lies fs.second _ (mathlib.Core.List.Memᴰ.tail (mathlib.Core.List.Memᴰ.tail (mathlib.Core.List.Memᴰ.head refl))) holds.in_second;
          third = part_lies fs.third _ (mathlib.Core.List.Memᴰ.tail (mathlib.Core.List.Memᴰ.tail (mathlib.Core.List.Memᴰ.tail (mathlib.Core.List.Memᴰ.head refl)))) holds.in_third;
          with = part_lies (or0 a_chain) (statement_row_at t s).with
              (mathlib.Core.List.Memᴰ.tail (mathlib.Core.List.Memᴰ.tail (mathlib.Core.List.Memᴰ.tail (mathlib.Core.List.Memᴰ.tail (mathlib.Core.List.Memᴰ.head refl))))) (inl refl);
          next = subst (λ (i : ℕ). StatementLies c t i (statement_row_at t s).next) here
              (after-statement c t few (fine-rows c (in_tables t) fine) s low high
              {e = statement_entry c (in_tables t) s (or0 a_statement) (statement_row_at t s).next} last refl);
        }

    -- The query of an `every` is a later one.
    pub every_opens : (statement_row_at t s).form ≡ 5 → Nests c (in_tables t) q (statement_row_at t s).query × ((statement_row_at t s).query ≤ c.queries)
    unfolding statement_entries
    every_opens five =
        let v = (statement_row_at t s).query in
        let f = row.fields {e = statement_entry c (in_tables t) s (form_of (statement_row_at t s).form).query v} (mathlib.Core.List.Memᴰ.head refl) in
        let is = every-query (statement_row_at t s).form five in (
          subst (λ (i : ℕ). Nests c (in_tables t) i v) here (f.nests (f.is_set is.1) is.0),
          subst (λ (i : Option Section). v ≤ limit_of c i) is.0 f.in_range,
        )

    -- And one level deeper.
    pub every-deeper : (statement_row_at t s).form ≡ 5 → level c (in_tables t) (statement_row_at t s).query ≡ level c (in_tables t) q + 1
    unfolding statement_entries
    every-deeper five =
        let v = (statement_row_at t s).query in
        let m : Memᴰ (statement_entry c (in_tables t) s (form_of (statement_row_at t s).form).query v) (statement_entries c (in_tables t) s) = mathlib.Core.List.Memᴰ.head refl in
        let is = every-query (statement_row_at t s).form five in
        let o = every_opens five in
        let above = query_in_statement c t few (fine-rows c (in_tables t) fine) s low high m is.0 o.0.not_first ∙ here in
        next_level c (in_tables t) few (fine-rows c (in_tables t) fine) v o.0.not_first o.1 ∙ ap (λ (i : ℕ). level c (in_tables t) i + 1) above
