-- A name found below a scope that does not own it was found in the scopes around that one.
use mathlib.Core.Path.{◌≡◌, refl, sym, ap, ◌∙◌, subst}
use mathlib.Core.Bool.{Bool, true, false, not, ◌||◌}
use mathlib.Core.List.{List, [], ◌∷◌, foldl}
use mathlib.Core.Logic.{◌⊎◌, inl, inr, ⊎_elim}
use mathlib.Core.Option.{Option, none, some}
use Prim.Native.Nat.{ℕ}
use lib.Dec.{eqb}
use borrow.Author.Tests.{eqb-true}
use Rattle.base.proofs.Laws.Truth.{bool_cases, not-both, or_left, or_right, or_cases}
use Rattle.base.specs.Lists.{is_some}
use Rattle.sheet.specs.declared.Row.{Row}
use Rattle.scope.specs.Scopes.{contains, insert, Span, Scope, span_in, is_local, owns, not_below, add_unscoped, add_input, use_input, var_exists}
use Rattle.scope.specs.Inner.Shadowed.{ExistsAround, InputsFound}

-- A name without a span is no local that counts.
not_local : (o : Option Span) (w : Row) → is_some o ≡ false → not_below o w ≡ false
not_local none w h = refl
not_local (some p) w h = absurd (not-both refl h)

-- A variable that exists below a scope that does not own its name exists around it.
exists_outside : (p : Scope) (parents : List Scope) (w : Row) → owns p w.name ≡ false → var_exists (p ∷ parents) w ≡ true → var_exists parents w ≡ true
unfolding owns var_exists
exists_outside p parents w n h =
    ⊎_elim
    (λ (e : contains p.unscoped w.name ≡ true).
    absurd (not-both (or_right (is_local p w.name) (contains p.unscoped w.name) e) n))
    (λ (e : (not_below (span_in p.locals w.name) w || var_exists parents w) ≡ true).
    ⊎_elim (λ (l : not_below (span_in p.locals w.name) w ≡ true). absurd (not-both l (hidden (bool_cases (is_local p w.name)))))
    (λ (r : var_exists parents w ≡ true). r)
    (or_cases (not_below (span_in p.locals w.name) w) (var_exists parents w) e))
    (or_cases (contains p.unscoped w.name) (not_below (span_in p.locals w.name) w || var_exists parents w) h)
  where
    hidden : (is_local p w.name ≡ true) ⊎ (is_local p w.name ≡ false) → not_below (span_in p.locals w.name) w ≡ false
    hidden (inl e) = absurd (not-both (or_left (is_local p w.name) (contains p.unscoped w.name) e) n)
    hidden (inr e) = not_local (span_in p.locals w.name) w e

-- So a name found below it is found around it.
pub found_outside : (p : Scope) (parents : List Scope) (x : ℕ) → owns p x ≡ false → ExistsAround (p ∷ parents) x → ExistsAround parents x
found_outside p parents x n f = record {
  variable = f.variable;
  named = f.named;
  exists = exists_outside p parents f.variable (ap (owns p) f.named ∙ n) f.exists;
}

-- ---- the inputs that rise

-- One more input, which is found.
pub one_found : (parents : List Scope) (sc : Scope) (y : ℕ) → ExistsAround parents y → InputsFound parents sc → InputsFound parents (add_input sc y)
unfolding add_input contains insert
one_found parents sc y g f x h =
    ⊎_elim (λ (e : eqb x y ≡ true). subst (ExistsAround parents) (sym (eqb-true x y e)) g) (λ (e : contains sc.inputs x ≡ true). f x e)
    (or_cases (eqb x y) (contains sc.inputs x) h)

-- The flag is no input.
pub flag-found : (parents : List Scope) (sc : Scope) (b : Bool) → InputsFound parents sc → InputsFound parents (use_input b sc)
unfolding use_input
flag-found parents sc b f = f

-- An unscoped name is no input.
pub unscoped-found : (parents : List Scope) (xs : List ℕ) (sc : Scope) → InputsFound parents sc → InputsFound parents (foldl add_unscoped sc xs)
unfolding add_unscoped
unscoped-found parents [] sc f = f
unscoped-found parents (x ∷ xs) sc f = unscoped-found parents xs (add_unscoped sc x) f

-- A name that is not the scope's own.
abbrev pub foreign : Scope → ℕ → Bool
foreign a x = not (owns a x)
