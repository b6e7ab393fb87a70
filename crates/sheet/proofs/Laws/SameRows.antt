-- Laws of `SameRows`.
use mathlib.Core.Path.{◌≡◌, refl, ap, ap₂, ◌∙◌}
use mathlib.Core.Bool.{Bool, true, false, not, cond, ◌&&◌, ◌||◌}
use mathlib.Core.List.{List, [], ◌∷◌, ◌++◌}
use Prim.Native.Nat.{ℕ, zero, suc, ◌+◌, ◌≤◌}
use native.Mathlib.Omega.{arith}
use lib.Dec.{eqb, leb, ltb}
use lib.ListN.{get_or}
use borrow.Author.Tests.{eqb-false, leb-true, ltb-true, ltb-false}
use Rattle.base.proofs.Laws.Truth.{not-both, and_left, and_right, or_left, or_right, and_on, or_on}
use Rattle.base.proofs.Laws.Members.{all_get_d}
use Rattle.sheet.specs.declared.Counts.{Counts}
use Rattle.sheet.specs.declared.Builtin.{Builtin}
use Rattle.sheet.specs.declared.Row.{Row}
use Rattle.sheet.specs.Sheet.{Rows}
use Rattle.sheet.specs.declared.fields.Field.{Field}
use Rattle.sheet.specs.declared.fields.KindFields.{KindFields}
use Rattle.sheet.specs.declared.fields.FormFields.{FormFields}
use Rattle.sheet.specs.Fields.{expr_section, limit_of, no_kind, kinds, kind_of, no_form, forms, form_of}
use Rattle.sheet.proofs.Laws.FieldSections.{is_section, section-is}
use Rattle.sheet.specs.Naming.{Entry, query_row, statement_row, expr_row, next_field, expr_entries, statement_entries, query_entries, Naming, namers, in_chain, row_namings, by_queries, by_statements, by_exprs, namings}
use Rattle.sheet.specs.Nesting.{enclosing, parent, deeper, level_in, level, is_var_at, goes_on, vars_in, ends_in, all_vars, ends_odd}
use Rattle.sheet.specs.Faults.{not_var, unpaired, misnested, field_fault, entries_fault, is_named_so, is_member, expr_fault, statement_fault, query_fault, path_before, builtin_fault, first_at_fault, first_line}
use Rattle.sheet.specs.Inner.SameRows.{SameRows}

-- ---- what is asked only where something else holds

unless : (g a b : Bool) → (g ≡ false → a ≡ b) → (g || a) ≡ (g || b)
unless true a b h = refl
unless false a b h = h refl

cond_on : (g : Bool) (x a b : Bool) → (g ≡ false → a ≡ b) → cond g x a ≡ cond g x b
cond_on true x a b h = refl
cond_on false x a b h = h refl

-- ---- only an expression is asked to be a Var, or a chain of keys and values

abbrev asks_vars : Field → Bool
asks_vars f = f.var || f.pairs

holds_expr : Field → Bool
holds_expr f = not (asks_vars f) || is_section f.section expr_section

kind_holds_lem : KindFields → Bool
kind_holds_lem k = holds_expr k.name && (holds_expr k.first && (holds_expr k.second && holds_expr k.third))

form_holds : FormFields → Bool
form_holds f = holds_expr f.query && (holds_expr f.first && (holds_expr f.second && holds_expr f.third))

kinds_hold : (k : ℕ) → kind_holds_lem (kind_of k) ≡ true
unfolding kind_of kinds kind_holds_lem holds_expr is_section
kinds_hold k = all_get_d kind_holds_lem kinds no_kind refl refl k

forms_hold : (k : ℕ) → form_holds (form_of k) ≡ true
unfolding form_of forms form_holds holds_expr is_section
forms_hold k = all_get_d form_holds forms no_form refl refl k

-- Fields of which that holds.
abbrev Hold : Field → Type 0
Hold f = asks_vars f ≡ true → f.section ≡ expr_section

holds : (f : Field) → holds_expr f ≡ true → Hold f
unfolding holds_expr
holds f h v = section-is f.section expr_section (go (asks_vars f) v h)
  where
    go : (b : Bool) → b ≡ true → (not b || is_section f.section expr_section) ≡ true → is_section f.section expr_section ≡ true
    go true p q = q
    go false p q = absurd (not-both p refl)

module _ (c : Counts) (t u : Rows) (same : SameRows c t u) where
  -- ---- what the fields name

  expr_entries_lem : (b : Bool) (r : ℕ) → t.expr r ≡ u.expr r → expr_entries c t b r ≡ expr_entries c u b r
  unfolding expr_entries
  expr_entries_lem b r e = rw e

  statement_entries_lem : (r : ℕ) → t.statement r ≡ u.statement r → statement_entries c t r ≡ statement_entries c u r
  unfolding statement_entries
  statement_entries_lem r e = rw e

  query_entries_lem : (r : ℕ) → t.query r ≡ u.query r → query_entries c t r ≡ query_entries c u r
  unfolding query_entries
  query_entries_lem r e = rw e

  by-queries : (q : ℕ) → q ≤ c.queries → by_queries c t q ≡ by_queries c u q
  unfolding by_queries
  by-queries zero h = refl
  by-queries (suc q) h =
      ap₂ (λ (ns : List Naming) (es : List Entry). ns ++ row_namings c (query_row (suc q)) es)
      (by-queries q (omega arith)) (query_entries_lem (suc q) (same.queries (suc q) (omega arith) h))

  by-statements : (s : ℕ) → s ≤ c.statements → by_statements c t s ≡ by_statements c u s
  unfolding by_statements
  by-statements zero h = by-queries c.queries (omega arith)
  by-statements (suc s) h =
      ap₂ (λ (ns : List Naming) (es : List Entry). ns ++ row_namings c (statement_row (suc s)) es)
      (by-statements s (omega arith)) (statement_entries_lem (suc s) (same.statements (suc s) (omega arith) h))

  by-exprs : (r : ℕ) → r ≤ c.exprs → by_exprs c t r ≡ by_exprs c u r
  unfolding by_exprs
  by-exprs zero h = by-statements c.statements (omega arith)
  by-exprs (suc r) h =
      let k = expr_row (suc r) in
      let before = by-exprs r (omega arith) in
      ap (λ (ns : List Naming). ns ++ row_namings c k (expr_entries c t (in_chain k (namers k ns)) (suc r))) before
      ∙ ap (λ (es : List Entry). by_exprs c u r ++ row_namings c k es)
      (expr_entries_lem (in_chain k (namers k (by_exprs c u r))) (suc r) (same.exprs (suc r) (omega arith) h))

  namings-same : namings c t ≡ namings c u
  unfolding namings
  namings-same = by-exprs c.exprs (omega arith)

  enclosing-same : enclosing c t ≡ enclosing c u
  unfolding enclosing
  enclosing-same = rw namings-same

  parent-same : (q : ℕ) → parent c t q ≡ parent c u q
  unfolding parent
  parent-same q = rw (namings-same, enclosing-same)

  level_in_lem : (n q : ℕ) → level_in c t n q ≡ level_in c u n q
  unfolding level_in
  level_in_lem zero q = refl
  level_in_lem (suc n) q = ap (λ (l : ℕ). cond (eqb q 1) 1 (deeper l)) (level_in_lem n (parent c t q) ∙ ap (level_in c u n) (parent-same q))

  level-same : (q : ℕ) → level c t q ≡ level c u q
  unfolding level
  level-same q = level_in_lem c.queries q

  -- ---- chains

  module _ (r : ℕ) (low : 1 ≤ r) (high : r ≤ c.exprs) where
    var-same : is_var_at c t r ≡ is_var_at c u r
    var-same = ap (λ (w : Row). eqb w.kind 6) (same.exprs r low high)

    next-same : (t.expr r).next ≡ (u.expr r).next
    next-same = ap (λ (w : Row). w.next) (same.exprs r low high)

    on_same : goes_on c t r ≡ goes_on c u r
    on_same = ap (λ (n : ℕ). ltb r n && leb n c.exprs) next-same

    next_low : goes_on c u r ≡ true → 1 ≤ (u.expr r).next
    next_low g = let h = ltb-true r (u.expr r).next (and_left _ _ g) in omega arith

    next-high : goes_on c u r ≡ true → (u.expr r).next ≤ c.exprs
    next-high g = leb-true (u.expr r).next c.exprs (and_right (ltb r (u.expr r).next) _ g)

  vars-same : (n r : ℕ) → 1 ≤ r → r ≤ c.exprs → vars_in c t n r ≡ vars_in c u n r
  unfolding vars_in
  vars-same zero r a b = refl
  vars-same (suc n) r a b =
      rw (var-same r a b, on_same r a b, next-same r a b)
      (ap (λ (z : Bool). is_var_at c u r && z) (or_on (goes_on c u r) _ _ (λ g. vars-same n (u.expr r).next (next_low r a b g) (next-high r a b g))))

  ends_same : (n : ℕ) (odd : Bool) (r : ℕ) → 1 ≤ r → r ≤ c.exprs → ends_in c t n odd r ≡ ends_in c u n odd r
  unfolding ends_in
  ends_same zero odd r a b = refl
  ends_same (suc n) odd r a b =
      rw (on_same r a b, next-same r a b)
      (ap (cond (eqb (u.expr r).next 0) odd) (and_on (goes_on c u r) _ _ (λ g. ends_same n (not odd) (u.expr r).next (next_low r a b g) (next-high r a b g))))

  -- ---- a field

  module _ (f : Field) (so : Hold f) (v : ℕ) (some : 1 ≤ v) (within : v ≤ limit_of c f.section) where
    in_exprs : asks_vars f ≡ true → v ≤ c.exprs
    in_exprs p = rw (so p) at within

    not_var-same : not_var c t f v ≡ not_var c u f v
    unfolding all_vars
    not_var-same =
        and_on f.var _ _
        (λ p. let h = in_exprs (or_left f.var f.pairs p) in rw (vars-same (suc c.exprs) v some h, var-same v some h))

    unpaired-same : unpaired c t f v ≡ unpaired c u f v
    unfolding ends_odd
    unpaired-same = and_on f.pairs _ _ (λ p. ends_same (suc c.exprs) true v some (in_exprs (or_right f.var f.pairs p)))

    misnested-same : (q : ℕ) → misnested c t f v q ≡ misnested c u f v q
    misnested-same q = rw (level-same q)

  field-same : (q : ℕ) (e : Entry) → Hold e.field → field_fault c t q e ≡ field_fault c u q e
  unfolding field_fault
  field-same q e so =
      let f = e.field in
      let v = e.value in
      cond_on (eqb v 0) f.set _ _
      (λ z. unless (ltb (limit_of c f.section) v) _ _ (λ l.
      let some = eqb-false v 0 z in
      let h = ltb-false (limit_of c f.section) v l in
      rw (not_var-same f so v (omega arith) h, unpaired-same f so v (omega arith) h, misnested-same f so v (omega arith) h q)))

  abbrev Holds : List Entry → Type 0
  Holds [] = Unit
  Holds (e ∷ es) = Hold e.field × Holds es

  fields-same : (q : ℕ) (es : List Entry) → Holds es → entries_fault c t q es ≡ entries_fault c u q es
  unfolding entries_fault
  fields-same q [] h = refl
  fields-same q (e ∷ es) h = ap₂ ◌||◌ (field-same q e h.0) (fields-same q es h.1)

  four : (a b d e : Field) → (holds_expr a && (holds_expr b && (holds_expr d && holds_expr e))) ≡ true → Hold a × Hold b × Hold d × Hold e
  four a b d e h =
      let h1 = and_right (holds_expr a) _ h in
      let h2 = and_right (holds_expr b) _ h1 in (
        holds a (and_left (holds_expr a) _ h),
        holds b (and_left (holds_expr b) _ h1),
        holds d (and_left (holds_expr d) _ h2),
        holds e (and_right (holds_expr d) _ h2),
      )

  next-holds : (b : Bool) → Hold (next_field b)
  next-holds true v = refl
  next-holds false v = absurd (not-both v refl)

  -- ---- the rows

  expr-fields : (b : Bool) (q r : ℕ) → entries_fault c t q (expr_entries c u b r) ≡ entries_fault c u q (expr_entries c u b r)
  unfolding expr_entries kind_holds_lem
  expr-fields b q r =
      let k = kind_of (u.expr r).kind in
      let h = four k.name k.first k.second k.third (kinds_hold (u.expr r).kind) in
      fields-same q _ (h.0, (h.1, (h.2, (h.3, (next-holds b, tt)))))

  statement-fields : (q r : ℕ) → entries_fault c t q (statement_entries c u r) ≡ entries_fault c u q (statement_entries c u r)
  unfolding statement_entries form_holds
  statement-fields q r =
      let f = form_of (u.statement r).form in
      let h = four f.query f.first f.second f.third (forms_hold (u.statement r).form) in
      fields-same q _ (h.0, (h.1, (h.2, (h.3, (λ v. refl, (λ v. absurd (not-both v refl), tt))))))

  query-fields : (q : ℕ) → entries_fault c t q (query_entries c u q) ≡ entries_fault c u q (query_entries c u q)
  unfolding query_entries
  query-fields q = fields-same q _ (λ v. absurd (not-both v refl), tt)

  expr_fault-same : (r : ℕ) → 1 ≤ r → r ≤ c.exprs → expr_fault c t r ≡ expr_fault c u r
  unfolding expr_fault is_named_so is_member
  expr_fault-same r a b =
      let q = get_or (enclosing c u) (expr_row r) 0 in
      let m = in_chain (expr_row r) (namers (expr_row r) (namings c u)) in
      rw (namings-same, enclosing-same, expr_entries_lem m r (same.exprs r a b), same.exprs r a b, expr-fields m q r)

  statement_fault-same : (r : ℕ) → 1 ≤ r → r ≤ c.statements → statement_fault c t r ≡ statement_fault c u r
  unfolding statement_fault is_named_so
  statement_fault-same r a b =
      let q = get_or (enclosing c u) (statement_row r) 0 in
      rw (namings-same, enclosing-same, statement_entries_lem r (same.statements r a b), same.statements r a b, statement-fields q r)

  query_fault-same : (r : ℕ) → 1 ≤ r → r ≤ c.queries → query_fault c t r ≡ query_fault c u r
  unfolding query_fault is_named_so
  query_fault-same r a b = rw (namings-same, query_entries_lem r (same.queries r a b), query-fields r)

  path_same : (n : ℕ) (b : Builtin) → n ≤ c.builtins → path_before c t n b ≡ path_before c u n b
  unfolding path_before
  path_same zero b h = refl
  path_same (suc n) b h = rw (same.builtins (suc n) (omega arith) h, path_same n b (omega arith))

  builtin_fault-same : (r : ℕ) → 1 ≤ r → r ≤ c.builtins → builtin_fault c t r ≡ builtin_fault c u r
  unfolding builtin_fault
  builtin_fault-same zero a b = absurd (omega arith)
  builtin_fault-same (suc r) a b = rw (same.builtins (suc r) (omega arith) b, path_same r (u.builtin (suc r)) (omega arith))

-- ---- the first line at fault

first-same : (f g : ℕ → Bool) (r n l : ℕ) → r + n ≤ suc l → 1 ≤ r → ((k : ℕ) → 1 ≤ k → k ≤ l → f k ≡ g k) → first_at_fault f r n ≡ first_at_fault g r n
unfolding first_at_fault
first-same f g r zero l h low e = refl
first-same f g r (suc n) l h low e =
    rw (e r low (omega arith), first-same f g (suc r) n l (omega arith) (omega arith) e)

pub first_line-same : (c : Counts) (t u : Rows) → SameRows c t u → first_line c t ≡ first_line c u
unfolding first_line
first_line-same c t u same =
    rw (
      first-same (builtin_fault c t) (builtin_fault c u) 1 c.builtins c.builtins (omega arith) (omega arith) (builtin_fault-same c t u same),
      first-same (expr_fault c t) (expr_fault c u) 1 c.exprs c.exprs (omega arith) (omega arith) (expr_fault-same c t u same),
      first-same (statement_fault c t) (statement_fault c u) 1 c.statements c.statements (omega arith) (omega arith) (statement_fault-same c t u same),
      first-same (query_fault c t) (query_fault c u) 1 c.queries c.queries (omega arith) (omega arith) (query_fault-same c t u same),
    )
