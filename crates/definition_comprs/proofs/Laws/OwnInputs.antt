-- Laws of `OwnInputs`.
use mathlib.Core.Path.{◌≡◌, refl, sym, ap, ap₂, ◌∙◌}
use mathlib.Core.Bool.{Bool, true, false, not, ◌&&◌, ◌||◌}
use mathlib.Core.List.{List, [], ◌∷◌}
use mathlib.Core.Logic.{◌⊎◌, inl, inr}
use Prim.Native.Nat.{ℕ, ◌<◌}
use native.Mathlib.Omega.{arith}
use Rattle.base.specs.Limits as limits
use Rattle.base.proofs.Laws.Truth.{bool_cases, bool_ext, and_intro, and_left}
use Rattle.base.specs.Lists.{filter, elem, range}
use Rattle.base.proofs.Laws.Lists.{elem-filter}
use Rattle.base.proofs.Laws.Ranges.{elem-range}
use Rattle.base.specs.Sets.{member}
use Rattle.names.specs.Inner.Sets.{Difference}
use Rattle.names.specs.Inner.Names.{Names}
use Rattle.scope.specs.Scopes.{NameSet, contains, elements, owns}
use Rattle.scope_state.specs.declared.Scope.{Scope}
use Rattle.definition_comprs.specs.Inner.OwnInputs.{OwnInputs}

own_bits : (i l u : Bool) → (i && not ((i && not l) && not u)) ≡ (i && (l || u))
own_bits false l u = refl
own_bits true true u = refl
own_bits true false true = refl
own_bits true false false = refl

pub own-inputs : (k : Scope) (inputs a b r : Names) → Difference inputs.words k.locals.words a.words
    → Difference a.words k.unscoped.words b.words → Difference inputs.words b.words r.words → OwnInputs k inputs r
unfolding owns
own-inputs k inputs a b r da db dr s h x =
    let i = member inputs.words x in
    dr.has x
    ∙ ap (λ (m : Bool). i && not m) (db.has x ∙ ap (λ (m : Bool). m && not (member k.unscoped.words x)) (da.has x))
    ∙ own_bits i (member k.locals.words x) (member k.unscoped.words x)
    ∙ ap₂ (λ (l u : Bool). i && (l || u)) (sym (h.locals x)) (sym (h.unscoped x))

-- ---- lists of names

-- A set whose names are in bounds has the names on its list.
pub elem-elements : (s : NameSet) → ((x : ℕ) → contains s x ≡ true → x < limits.per_name) → (x : ℕ) → elem x (elements s) ≡ contains s x
unfolding elements
elem-elements s low x =
    elem-filter (contains s) x (range 0 limits.per_name)
    ∙ bool_ext _ _ (and_left (contains s x) _) (λ m. and_intro _ _ m (elem-range x 0 limits.per_name (omega arith) (low x m)))

-- A filter of a filter asks both.
pub filter-both : (f g h : ℕ → Bool) → ((x : ℕ) → h x ≡ (g x && f x)) → (l : List ℕ) → filter f (filter g l) ≡ filter h l
filter-both f g h both [] = refl
filter-both f g h both (x ∷ l) = go (bool_cases (g x)) (bool_cases (f x)) (both x) (filter-both f g h both l)
  where
    go : (g x ≡ true) ⊎ (g x ≡ false) → (f x ≡ true) ⊎ (f x ≡ false) → h x ≡ (g x && f x) → filter f (filter g l) ≡ filter h l
        → filter f (filter g (x ∷ l)) ≡ filter h (x ∷ l)
    go (inl p) (inl q) e ih = rw (e, p, q) (ap (λ (m : List ℕ). x ∷ m) ih)
    go (inl p) (inr q) e ih = rw (e, p, q) ih
    go (inr p) q e ih = rw (e, p) ih
