-- Laws of `Onwards`.
use mathlib.Core.Path.{◌≡◌, refl, sym, subst}
use mathlib.Core.Bool.{true, false}
use mathlib.Core.List.{List, []}
use mathlib.Core.Logic.{◌⊎◌, inl, inr}
use Prim.Native.Nat.{ℕ, zero, suc, ◌≤◌, ◌<◌}
use native.Mathlib.Omega.{arith}
use Rattle.sheet.specs.declared.fields.Section.{Section}
use Rattle.std.specs.Prelude.{Option, None}
use Rattle.base.specs.Limits as limits
use Rattle.base.proofs.Laws.Truth.{bool_cases}
use Rattle.sheet.specs.declared.Counts.{Counts}
use Rattle.sheet.specs.Inner.Records.{Within, expr_at}
use Rattle.sheet.specs.Fields.{name_section, limit_of}
use Rattle.sheet_fields.proofs.Laws.Tables.{name_in_kind}
use Rattle.sheet_facts.specs.Inner.Facts.{SheetFacts}
use Rattle.sheet.specs.declared.Row.{Row}
use Rattle.sheet.specs.Inner.Sheet.{row_at}
use Rattle.sheet.specs.Kinds.{is_compr}
use Rattle.scope.specs.Trees.{third_of}
use Rattle.scope.specs.Traverse.{Child, children_of}
use Rattle.scope.proofs.Laws.Children.{of_children}
use Rattle.scope_walk.proofs.Laws.Descent.{OnwardTo, Descends}
use Rattle.scope_walk.proofs.Laws.RowTrees.{row_descends}
use Rattle.scope_walk.specs.Inner.Kids.{kids_by, kids_of}
use Rattle.scope_walk.proofs.Laws.Kids.{compr_enters_nothing}
use Rattle.sheet.specs.Inner.Rows.{in_tables}
use Rattle.scope_walk.specs.Inner.Onwards.{rows_left}

pub left-most : (n v : ℕ) → rows_left n v ≤ suc n
unfolding rows_left
left-most n zero = omega arith
left-most n (suc v) = omega arith

pub left_falls : (n r v : ℕ) → 1 ≤ r → r ≤ n → OnwardTo n r v → rows_left n v < rows_left n r
unfolding rows_left
left_falls n zero v a b h = absurd (omega arith)
left_falls n (suc r) zero a b h = omega arith
left_falls n (suc r) (suc v) a b (inl z) = absurd (omega arith)
left_falls n (suc r) (suc v) a b (inr h) = omega (arith, h.0, h.1)

pub onward_low : (n r v : ℕ) → OnwardTo n r v → v ≤ n
onward_low n r v (inl z) = omega arith
onward_low n r v (inr h) = h.1

-- The rows that a walk goes to from row w, the r-th of n.
pub record Onwards (n r : ℕ) (w : Row) : Type 0 where
  pub first : OnwardTo n r (kids_of w).first
  pub second : OnwardTo n r (kids_of w).second
  pub third : OnwardTo n r (kids_of w).third
  pub next : OnwardTo n r w.next

module _ (n r : ℕ) (w : Row) (d : Descends n r w) where
  abbrev Three : List Child → Type 0
  Three ks = OnwardTo n r (kids_by ks w).first × OnwardTo n r (kids_by ks w).second × OnwardTo n r (kids_by ks w).third

  none : Three []
  none = (inl refl, inl refl, inl refl)

  by_kind : OnwardTo n r w.third → Three (children_of w)
  by_kind h =
      of_children Three none (d.to-first, inl refl, inl refl) (d.to-second, inl refl, inl refl) (d.to-first, d.to-second, inl refl)
      (d.to-first, d.to-second, h) w.kind

  -- A comprehension's third field names a query, and is not entered.
  by-compr : (is_compr w ≡ true) ⊎ (is_compr w ≡ false) → Three (children_of w)
  by-compr (inl p) = subst Three (sym (compr_enters_nothing w p)) none
  by-compr (inr p) = let e : third_of w ≡ w.third = rw p in by_kind (subst (OnwardTo n r) e d.to-third)

  pub onwards : Onwards n r w
  unfolding kids_of
  onwards =
      let k = by-compr (bool_cases (is_compr w)) in
      record { first = k.0; second = k.1; third = k.2; next = d.to-next }

-- ---- names

module _ (c : Counts) (t : List ℕ) (within : Within c) (facts : SheetFacts c (in_tables t)) where
  low_by : (section : Option Section) (v : ℕ) → v ≤ limit_of c section → (section ≡ name_section) ⊎ (section ≡ None) → v < limits.per_name
  low_by section v h (inl e) = let l : v ≤ limit_of c name_section = subst (λ (k : Option Section). v ≤ limit_of c k) e h in omega (arith, within.few-names)
  low_by section v h (inr e) = let l : v ≤ limit_of c None = subst (λ (k : Option Section). v ≤ limit_of c k) e h in omega arith

  counted-by : (section : Option Section) (v : ℕ) → v ≤ limit_of c section → (section ≡ name_section) ⊎ (section ≡ None) → v ≤ c.names
  counted-by section v h (inl e) = let l : v ≤ limit_of c name_section = subst (λ (k : Option Section). v ≤ limit_of c k) e h in omega (arith, l)
  counted-by section v h (inr e) = let l : v ≤ limit_of c None = subst (λ (k : Option Section). v ≤ limit_of c k) e h in omega (arith, l)

  -- A row's name is one of the sheet's.
  pub name-counted : (r : ℕ) → 1 ≤ r → r ≤ c.exprs → (row_at t r).name ≤ c.names
  unfolding row_at
  name-counted r a b = counted-by _ (expr_at t r).name (facts.expr r a b).name.fine.in_range (name_in_kind (expr_at t r).kind)

  pub name-low : (r : ℕ) → 1 ≤ r → r ≤ c.exprs → (row_at t r).name < limits.per_name
  unfolding row_at
  name-low r a b = low_by _ (expr_at t r).name (facts.expr r a b).name.fine.in_range (name_in_kind (expr_at t r).kind)

  pub row_onwards : (r : ℕ) → 1 ≤ r → r ≤ c.exprs → Onwards c.exprs r (row_at t r)
  row_onwards r a b = onwards c.exprs r (row_at t r) (row_descends c t facts r a b)
