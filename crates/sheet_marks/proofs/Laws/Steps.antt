-- The definitions as the code tests them.
use mathlib.Core.Path.{◌≡◌, refl, sym, ◌∙◌}
use mathlib.Core.Bool.{true, false}
use mathlib.Core.List.{List}
use mathlib.Core.Logic.{◌⊎◌, inl, inr}
use Prim.Native.Nat.{ℕ}
use native.Mathlib.Omega.{arith}
use borrow.Author.Tests.{eq-eqb, le-ltb}
use Rattle.std.specs.Prelude.{None}
use Rattle.base.proofs.Laws.Truth.{bool_cases}
use Rattle.sheet.specs.declared.Counts.{Counts}
use Rattle.sheet.specs.declared.fields.Field.{Field}
use Rattle.sheet.specs.Fields.{name_section}
use Rattle.sheet.specs.Naming.{Entry, in_range, target}
use Rattle.sheet_marks.specs.Inner.Marks.{name_work}

-- ---- the row that a field names

module _ (c : Counts) (f : Field) (v : ℕ) where
  pub target-zero : v ≡ 0 → 0 ≡ target c f v
  unfolding target
  target-zero e = sym (rw (le-ltb 0 v (omega arith)))

  pub target_of-name : (f.section ≡ name_section) ⊎ (f.section ≡ None) → 0 ≡ target c f v
  unfolding target
  target_of-name h = go (bool_cases (in_range c f v)) h
    where
      go : (in_range c f v ≡ true) ⊎ (in_range c f v ≡ false) → (f.section ≡ name_section) ⊎ (f.section ≡ None) → 0 ≡ target c f v
      go (inl p) (inl e) = sym (rw (p, e))
      go (inl p) (inr e) = sym (rw (p, e))
      go (inr p) e = sym (rw p)

-- ---- what it does to the marks

module _ (c : Counts) (by : ℕ) (e : Entry) (w : List ℕ) (to : ℕ) (is : to ≡ target c e.field e.value) where
  pub name-none : to ≡ 0 → w ≡ name_work c by e w
  unfolding name_work
  name-none z = sym (rw (eq-eqb (target c e.field e.value) 0 (sym is ∙ z)))

pub name-zero : (c : Counts) (by : ℕ) (e : Entry) (w : List ℕ) → e.value ≡ 0 → w ≡ name_work c by e w
name-zero c by e w z = name-none c by e w 0 (target-zero c e.field e.value z) refl
