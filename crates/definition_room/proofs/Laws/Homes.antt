-- Which query the expressions lie in that an expression names: where it lies, but for the outputs of a comprehension, which lie in its query.
use mathlib.Core.Path.{◌≡◌, refl, sym, ap, ◌∙◌, subst}
use mathlib.Core.Bool.{Bool, true, false}
use mathlib.Core.List.{List, [], Memᴰ}
use mathlib.Core.Logic.{◌⊎◌, inl, inr, ⊎_elim}
use Prim.Native.Nat.{ℕ, ◌+◌, ◌≤◌}
use native.Mathlib.Omega.{arith}
use lib.Dec.{eqb}
use borrow.Author.Tests.{eqb-true}
use Rattle.sheet.specs.declared.fields.Section.{Section}
use Rattle.std.specs.Prelude.{Option}
use Rattle.std.specs.Prelude.{None}
use Rattle.base.proofs.Laws.Truth.{bool_cases, or_cases}
use Rattle.sheet.specs.declared.Counts.{Counts}
use Rattle.sheet.specs.Inner.Records.{Within, expr_at}
use Rattle.sheet.specs.declared.fields.Field.{Field}
use Rattle.sheet.specs.declared.fields.KindFields.{KindFields}
use Rattle.sheet.specs.Fields.{limit_of, a_query, kind_of}
use Rattle.sheet_fields.proofs.Laws.Tables.{HoldsQuery}
use Rattle.sheet.specs.Naming.{expr_row, target, place_of, next_field, expr_entry, expr_entries}
use Rattle.sheet.specs.Faults.{is_member, first_line}
use Rattle.sheet.specs.Inner.Enclosing.{enclosing_query}
use Rattle.sheet.proofs.Laws.EnclosingLaws.{enclosing-query}
use Rattle.sheet_facts.proofs.Laws.Accepted.{fine-rows}
use Rattle.sheet_facts.specs.Inner.FineFields.{Nests}
use Rattle.sheet_facts.proofs.Laws.Rows.{FineExpr, fine-expr_row}
use Rattle.sheet_facts.proofs.Laws.Places.{expr-place}
use Rattle.sheet.specs.declared.Row.{Row}
use Rattle.sheet.specs.Inner.Sheet.{row_at}
use Rattle.sheet.specs.Kinds.{is_pattern, is_compr, is_assign}
use Rattle.scope.specs.Traverse.{Child, children_of}
use Rattle.scope.proofs.Laws.Children.{of_children}
use Rattle.scope_walk.specs.declared.Kids.{Kids}
use Rattle.scope_walk.specs.Inner.Kids.{all_fields, kids_by, kids_of}
use Rattle.scope_walk.proofs.Laws.Kids.{compr_enters_nothing}
use Rattle.definition_room.proofs.Laws.Listed.{compr_kind, kind_holds, HoldsField}
use Rattle.definition_room.proofs.Laws.Named.{target_row, next-holds}
use Rattle.sheet.specs.Nesting.{level}
use Rattle.sheet_facts.proofs.Laws.Levels.{next_level}
use Rattle.definition_room.specs.Inner.Lying.{Lies}
use Rattle.definition_room.proofs.Laws.Lying.{in_expr, query_in_expr}
use Rattle.definition_room.proofs.Laws.Terms.{first_no_term, second_no_term, third_no_term, third-holds, compr_terms}
use Rattle.sheet.specs.Inner.Rows.{in_tables}

-- ---- kinds that are no comprehension

kind_no_compr : (w : Row) (n : ℕ) → compr_kind n ≡ false → eqb w.kind n ≡ true → is_compr w ≡ false
kind_no_compr w n h p = ap compr_kind (eqb-true w.kind n p) ∙ h

pub pattern_no_compr : (w : Row) → is_pattern w ≡ true → is_compr w ≡ false
pattern_no_compr w h = ⊎_elim (kind_no_compr w 7 refl) (kind_no_compr w 9 refl) (or_cases _ _ h)

pub assign_no_compr : (w : Row) → is_assign w ≡ true → is_compr w ≡ false
assign_no_compr w h = ⊎_elim (kind_no_compr w 20 refl) (kind_no_compr w 21 refl) (or_cases _ _ h)

-- ---- what is said of them

module _ (c : Counts) (t : List ℕ) where
  -- Three rows that lie in query q, or are none.
  pub record KidsInside (q : ℕ) (k : Kids) : Type 0 where
    pub first : Lies c t q k.first
    pub second : Lies c t q k.second
    pub third : Lies c t q k.third

  -- The comprehension w, which lies in query q: its query is a later one, and in that lie its outputs.
  pub record Opens (q : ℕ) (w : Row) : Type 0 where
    pub nests : Nests c (in_tables t) q w.third
    pub in_sheet : w.third ≤ c.queries
    pub first : Lies c t w.third w.first
    pub second : Lies c t w.third w.second

module _ (c : Counts) (t : List ℕ) (few : Within c) (fine : first_line c (in_tables t) ≡ 0) (q r : ℕ) (low : 1 ≤ r) (high : r ≤ c.exprs)
    (here : enclosing_query c (in_tables t) (expr_row r) ≡ q) where
  abbrev fs : KindFields
  fs = kind_of (expr_at t r).kind

  row : FineExpr c (in_tables t) r
  row = fine-expr_row c (in_tables t) r ((fine-rows c (in_tables t) fine).fine-expr r low high)

  -- ---- the fields among the entries of the row

  abbrev Among : Field → ℕ → Type 0
  Among f v = Memᴰ (expr_entry c (in_tables t) r f v) (expr_entries c (in_tables t) (is_member c (in_tables t) r) r)

  among_first : Among fs.first (expr_at t r).first
  unfolding expr_entries
  among_first = Memᴰ.tail (Memᴰ.head refl)

  among_second : Among fs.second (expr_at t r).second
  unfolding expr_entries
  among_second = Memᴰ.tail (Memᴰ.tail (Memᴰ.head refl))

  among_third : Among fs.third (expr_at t r).third
  unfolding expr_entries
  among_third = Memᴰ.tail (Memᴰ.tail (Memᴰ.tail (Memᴰ.head refl)))

  among_next : Among (next_field (is_member c (in_tables t) r)) (expr_at t r).next
  unfolding expr_entries
  among_next = Memᴰ.tail (Memᴰ.tail (Memᴰ.tail (Memᴰ.tail (Memᴰ.head refl))))

  -- ---- parts: they lie where the whole does

  part_lies : (f : Field) (v : ℕ) → Among f v → HoldsField f → f.term ≡ false → Lies c t q v
  part_lies f v m h p =
      subst (λ (i : ℕ). Lies c t i v) (ap (enclosing_query c (in_tables t)) ((expr-place c (in_tables t) r row m).part p) ∙ here)
      (in_expr c t few (fine-rows c (in_tables t) fine) r low high m h)

  -- The rest of the chain.
  pub next-lies : Lies c t q (row_at t r).next
  unfolding row_at
  next-lies = part_lies (next_field (is_member c (in_tables t) r)) (expr_at t r).next among_next (next-holds (is_member c (in_tables t) r)) (go (is_member c (in_tables t) r))
    where
      go : (b : Bool) → (next_field b).term ≡ false
      go true = refl
      go false = refl

  -- The fields of any kind but a comprehension: of a pattern, an assignment or a call among others.
  pub fields_lie : is_compr (row_at t r) ≡ false → KidsInside c t q (all_fields (row_at t r))
  unfolding row_at
  fields_lie other =
      let kind = (expr_at t r).kind in
      let small = row.kind_high in
      let holds = kind_holds kind small in
      record {
        first = part_lies _ _ among_first holds.in_first (first_no_term kind small other);
        second = part_lies _ _ among_second holds.in_second (second_no_term kind small other);
        third = part_lies _ _ among_third (third-holds kind small other) (third_no_term kind small other);
      }

  -- What a walk enters.
  abbrev Inside : List Child → Type 0
  Inside ks = KidsInside c t q (kids_by ks (row_at t r))

  pub kids_lie : KidsInside c t q (kids_of (row_at t r))
  unfolding kids_of
  kids_lie = go (bool_cases (is_compr (row_at t r)))
    where
      none : Inside []
      none = record { first = inl refl; second = inl refl; third = inl refl }

      by_kind : KidsInside c t q (all_fields (row_at t r)) → Inside (children_of (row_at t r))
      by_kind h =
          of_children Inside none (record { first = h.first; second = inl refl; third = inl refl })
          (record { first = h.second; second = inl refl; third = inl refl }) (record { first = h.first; second = h.second; third = inl refl }) h
          (row_at t r).kind

      go : (is_compr (row_at t r) ≡ true) ⊎ (is_compr (row_at t r) ≡ false) → Inside (children_of (row_at t r))
      go (inl p) = subst Inside (sym (compr_enters_nothing (row_at t r) p)) none
      go (inr p) = by_kind (fields_lie p)

  -- ---- a comprehension

  third-set : HoldsQuery fs.third → (1 ≤ (expr_at t r).third) × ((expr_at t r).third ≤ c.queries)
  third-set e =
      let f = row.fields among_third in
      (f.is_set e.1, subst (λ (s : Option Section). (expr_at t r).third ≤ limit_of c s) e.0 f.in_range)

  -- A term lies in the comprehension's query.
  term_lies : HoldsQuery fs.third → (f : Field) (v : ℕ) → Among f v → HoldsField f → (f.term ≡ true) ⊎ (f.section ≡ None)
      → Lies c t (expr_at t r).third v
  unfolding place_of
  term_lies is f v m h (inl p) =
      let s = third-set is in
      let v3 = (expr_at t r).third in
      let to : target c a_query v3 ≡ v3 = target_row c 0 (record { field = a_query; value = v3; place = 0 }) s.0 s.1 in
      let at : place_of c f (expr_at t r).third r ≡ v3 = rw p to in
      subst (λ (i : ℕ). Lies c t i v) (ap (enclosing_query c (in_tables t)) at ∙ enclosing-query c (in_tables t) v3 (omega (arith, s.1, few.few-queries)))
      (in_expr c t few (fine-rows c (in_tables t) fine) r low high m h)
  term_lies is f v m h (inr z) =
      let none : v ≤ limit_of c None = subst (λ (i : Option Section). v ≤ limit_of c i) z (row.fields m).in_range in
      inl (omega arith)

  -- Its query is one level deeper than the query where it stands.
  pub compr-deeper : is_compr (row_at t r) ≡ true → level c (in_tables t) (row_at t r).third ≡ level c (in_tables t) q + 1
  unfolding row_at
  compr-deeper is =
      let kind = (expr_at t r).kind in
      let terms = compr_terms kind row.kind_high is in
      let set = third-set terms.third-query in
      let section = terms.third-query.0 in
      let v = (expr_at t r).third in
      let later = ((row.fields among_third).nests set.0 section).not_first in
      let place = expr-place c (in_tables t) r row among_third in
      let above = query_in_expr c t few (fine-rows c (in_tables t) fine) r low high among_third section later
      ∙ ap (enclosing_query c (in_tables t)) (place.part (place.no_query section)) ∙ here in
      next_level c (in_tables t) few (fine-rows c (in_tables t) fine) v later set.1 ∙ ap (λ (i : ℕ). level c (in_tables t) i + 1) above

  pub compr_opens : is_compr (row_at t r) ≡ true → Opens c t q (row_at t r)
  unfolding row_at
  compr_opens is =
      let kind = (expr_at t r).kind in
      let terms = compr_terms kind row.kind_high is in
      let holds = kind_holds kind row.kind_high in
      let set = third-set terms.third-query in
      record {
        nests = subst (λ (i : ℕ). Nests c (in_tables t) i (expr_at t r).third) here ((row.fields among_third).nests set.0 terms.third-query.0);
        in_sheet = set.1;
        first = term_lies terms.third-query _ _ among_first holds.in_first terms.first_term;
        second = term_lies terms.third-query _ _ among_second holds.in_second terms.second_term;
      }
