-- Laws of `Tests`.
use mathlib.Core.Path.{◌≡◌, refl, sym, ap, ◌∙◌}
use mathlib.Core.Bool.{Bool, true, false, not, ◌&&◌, ◌||◌, or-false}
use mathlib.Core.List.{List}
use mathlib.Core.Logic.{◌⊎◌, inl, inr}
use Prim.Native.Nat.{ℕ, zero, suc, ◌+◌, ◌-◌, ◌≤◌, ◌<◌}
use native.Mathlib.Omega.{arith}
use lib.Dec.{eqb, ltb}
use lib.ListN.{get_or}
use borrow.Author.Tests.{eq-eqb, ne_eqb, lt-ltb}
use Rattle.base.specs.Limits.{most_arity}
use Rattle.base.specs.Limits as limits
use Rattle.base.proofs.Laws.Truth.{eq_cases, not-both, and_left, and_right}
use Rattle.sheet.specs.declared.Counts.{Counts}
use Rattle.sheet.specs.declared.Builtin.{Builtin}
use Rattle.sheet.specs.declared.Row.{Row}
use Rattle.sheet.specs.Inner.Records.{builtin_at, expr_at, statement_row_at, first_at}
use Rattle.sheet.specs.declared.fields.Field.{Field}
use Rattle.sheet.specs.declared.fields.KindFields.{KindFields}
use Rattle.sheet.specs.Fields.{a_statement, or0, no_kind, kinds, kind_of, form_of}
use Rattle.sheet.proofs.Laws.FieldSections.{is_section, section-is}
use Rattle.base.specs.Lists.{all}
use Rattle.base.proofs.Laws.Members.{all_get_d}
use Rattle.std.specs.Prelude.{None}
use Rattle.sheet.specs.Naming.{next_field, expr_entries, statement_entries, query_entries, namers, in_chain, namings}
use Rattle.sheet.specs.Nesting.{enclosing}
use Rattle.sheet.specs.Faults.{field_fault, entries_fault, is_named_so, is_member, expr_fault, statement_fault, query_fault, path_before, builtin_fault}
use Rattle.sheet_faults.specs.Inner.Known.{Known}
use Rattle.sheet_faults.proofs.Laws.Known.{so_is, member_is, query-is}
use Rattle.sheet.specs.Inner.Rows.{in_tables}
use Rattle.sheet_faults.specs.Inner.Tests.{fault_in, parts_in, parts_by, expr_fields_by, statement_fields_by, expr_fault_by, statement_fault_by, query_fault_by, same_path_by, path_by, gap_by, beyond_by, builtin_by}

-- ---- the fields of a row

-- A leaf's parts are not listed.
is_nothing : Field → Bool
is_nothing f = is_section f.section None && not f.set

leaf_or_whole : KindFields → Bool
leaf_or_whole k = not (is_section k.first.section None) || (is_nothing k.first && (is_nothing k.second && is_nothing k.third))

leaves_hold : all leaf_or_whole kinds ≡ true
unfolding leaf_or_whole is_nothing is_section kinds
leaves_hold = refl

whole-or-leaf : (k : ℕ) → leaf_or_whole (kind_of k) ≡ true
unfolding kind_of leaf_or_whole is_nothing is_section
whole-or-leaf k = all_get_d leaf_or_whole kinds no_kind leaves_hold refl k

implied : (a b : Bool) → a ≡ true → (not a || b) ≡ true → b ≡ true
implied true b p q = q
implied false b p q = absurd (not-both p refl)

leaf : (k : ℕ) → (kind_of k).first.section ≡ None
    → (is_nothing (kind_of k).first && (is_nothing (kind_of k).second && is_nothing (kind_of k).third)) ≡ true
unfolding leaf_or_whole is_section
leaf k e =
    let h : leaf_or_whole (kind_of k) ≡ true = whole-or-leaf k in
    implied (is_section (kind_of k).first.section None) _ (ap (λ s. is_section s None) e) h

off : (b : Bool) → not b ≡ true → b ≡ false
off true p = absurd (not-both p refl)
off false p = refl

regroup : (a b c d : Bool) → ((a || (b || c)) || d) ≡ (a || (b || (c || (d || false))))
regroup true b c d = refl
regroup false true c d = refl
regroup false false true d = refl
regroup false false false true = refl
regroup false false false false = refl

module _ (c : Counts) (t : List ℕ) where
  -- A field that is not listed is at fault if it is not 0.
  unlisted : (q : ℕ) (f : Field) (v : ℕ) → is_nothing f ≡ true → fault_in c t q f v ≡ not (eqb v 0)
  unfolding field_fault is_nothing
  unlisted q f v h = go (eq_cases v 0)
    where
      none : f.section ≡ None
      none = section-is f.section None (and_left (is_section f.section None) _ h)

      unset : f.set ≡ false
      unset = off f.set (and_right (is_section f.section None) _ h)

      go : (v ≡ 0) ⊎ (v ≡ 0 → ⊥) → fault_in c t q f v ≡ not (eqb v 0)
      go (inl e) = rw (eq-eqb v 0 e, unset)
      go (inr e) = rw (ne_eqb v 0 e, none, lt-ltb 0 v (omega arith))

  pub leaf_parts : (q : ℕ) (x : Row) → (kind_of x.kind).first.section ≡ None
      → parts_by c t q (kind_of x.kind) x ≡ parts_in x
  unfolding parts_by
  leaf_parts q x e =
      let k = kind_of x.kind in
      let none = leaf x.kind e in
      let later = and_right (is_nothing k.first) _ none in
      rw (
        unlisted q k.first x.first (and_left (is_nothing k.first) _ none),
        unlisted q k.second x.second (and_left (is_nothing k.second) _ later),
        unlisted q k.third x.third (and_right (is_nothing k.second) _ later),
      )

  parts_are : (q : ℕ) (member : Bool) (r : ℕ) → expr_fields_by c t q member (expr_at t r) ≡ entries_fault c (in_tables t) q (expr_entries c (in_tables t) member r)
  unfolding expr_fields_by parts_by expr_entries entries_fault field_fault
  parts_are q member r =
      let x = expr_at t r in
      let fs = kind_of x.kind in
      ap (λ (b : Bool). fault_in c t q fs.name x.name || b)
      (regroup (fault_in c t q fs.first x.first) (fault_in c t q fs.second x.second) (fault_in c t q fs.third x.third) (fault_in c t q (next_field member) x.next))

  fields_are : (q r : ℕ) → statement_fields_by c t q (form_of (statement_row_at t r).form) (statement_row_at t r) ≡ entries_fault c (in_tables t) q (statement_entries c (in_tables t) r)
  unfolding statement_fields_by statement_entries entries_fault field_fault
  fields_are q r = rw (or-false (fault_in c t q (or0 a_statement) (statement_row_at t r).next))

  first-is : (q : ℕ) → fault_in c t q (or0 a_statement) (first_at t q) ≡ entries_fault c (in_tables t) q (query_entries c (in_tables t) q)
  unfolding query_entries entries_fault field_fault
  first-is q = rw (or-false (fault_in c t q (or0 a_statement) (first_at t q)))

  module _ (w : List ℕ) (known : Known c t w) where
    pub expr-is : (r : ℕ) → 1 ≤ r → r ≤ c.exprs → expr_fault_by c t (get_or w (160 + r) 0) (expr_at t r) ≡ expr_fault c (in_tables t) r
    unfolding expr_fault_by expr_fault is_named_so is_member
    expr-is r l h =
        let b = known.within.few-exprs in
        rw (
          so_is c t w known (160 + r) (omega arith),
          member_is c t w known (160 + r) (omega arith),
          query-is c t w known (160 + r) (omega arith) (omega arith),
          parts_are (get_or (enclosing c (in_tables t)) (160 + r) 0) (in_chain (160 + r) (namers (160 + r) (namings c (in_tables t)))) r,
        )

    pub statement_fault-is : (r : ℕ) → 1 ≤ r → r ≤ c.statements → statement_fault_by c t (get_or w (limits.most_queries + r) 0) (statement_row_at t r) ≡ statement_fault c (in_tables t) r
    unfolding statement_fault_by statement_fault is_named_so
    statement_fault-is r l h =
        let b = known.within.few-statements in
        rw (
          so_is c t w known (limits.most_queries + r) (omega arith),
          query-is c t w known (limits.most_queries + r) (omega arith) (omega arith),
          fields_are (get_or (enclosing c (in_tables t)) (limits.most_queries + r) 0) r,
        )

    pub query_fault-is : (q : ℕ) → q ≤ limits.most_queries → query_fault_by c t (get_or w q 0) q (first_at t q) ≡ query_fault c (in_tables t) q
    unfolding query_fault_by query_fault is_named_so
    query_fault-is q h = rw (so_is c t w known q (omega arith), first-is q)

path_is : (c : Counts) (t : List ℕ) (n : ℕ) (b : Builtin) → path_by t n b ≡ path_before c (in_tables t) n b
unfolding path_by path_before
path_is c t zero b = refl
path_is c t (suc n) b = ap (λ (z : Bool). same_path_by (builtin_at t (suc n)) b || z) (path_is c t n b)

pub builtin-is : (c : Counts) (t : List ℕ) (r : ℕ) → 1 ≤ r → builtin_by c t (r - 1) (builtin_at t r) ≡ builtin_fault c (in_tables t) r
unfolding builtin_by builtin_fault
builtin-is c t r h =
    let e : r ≡ suc (r - 1) = omega arith in
    ap (λ (z : Bool). ltb most_arity (builtin_at t r).arity || (gap_by (builtin_at t r) || (beyond_by c (builtin_at t r) || z))) (path_is c t (r - 1) (builtin_at t r))
    ∙ ap (λ (k : ℕ). ltb most_arity (builtin_at t k).arity || (gap_by (builtin_at t k) || (beyond_by c (builtin_at t k) || path_before c (in_tables t) (r - 1) (builtin_at t k)))) e
    ∙ sym (ap (builtin_fault c (in_tables t)) e)

module _ (t : List ℕ) (b : Builtin) (n : ℕ) where
  path_at_lem : 0 < n → (same_path_by (builtin_at t n) b || path_by t (n - 1) b) ≡ path_by t n b
  unfolding path_by
  path_at_lem h =
      let e : n ≡ suc (n - 1) = omega arith in
      ap (λ (k : ℕ). same_path_by (builtin_at t k) b || path_by t (n - 1) b) e ∙ sym (ap (λ (k : ℕ). path_by t k b) e)

  pub path_here : 0 < n → (x : Builtin) → x ≡ builtin_at t n → same_path_by x b ≡ true → true ≡ path_by t n b
  path_here h x e s =
      sym (ap (λ (z : Bool). z || path_by t (n - 1) b) (sym (ap (λ (y : Builtin). same_path_by y b) e) ∙ s)) ∙ path_at_lem h

  pub path_before_lem : 0 < n → (x : Builtin) → x ≡ builtin_at t n → same_path_by x b ≡ false → path_by t (n - 1) b ≡ path_by t n b
  path_before_lem h x e s =
      sym (ap (λ (z : Bool). z || path_by t (n - 1) b) (sym (ap (λ (y : Builtin). same_path_by y b) e) ∙ s)) ∙ path_at_lem h

  pub path_none : n ≤ 0 → false ≡ path_by t n b
  unfolding path_by
  path_none h = let e : n ≡ 0 = omega arith in sym (ap (λ (k : ℕ). path_by t k b) e)
