-- The inputs that rise from below a scope are found around it.
use mathlib.Core.Path.{◌≡◌, ap}
use mathlib.Core.Bool.{true, false, not}
use mathlib.Core.List.{List, [], ◌∷◌, foldl}
use mathlib.Core.Logic.{⊎_elim}
use Prim.Native.Nat.{ℕ}
use Rattle.base.proofs.Laws.Truth.{bool_cases, not-both, and_left, and_right}
use Rattle.base.specs.Lists.{all, filter, range}
use Rattle.base.proofs.Laws.ListLaws.{all-kept, all_filter}
use Rattle.sheet.specs.Sheet.{name_bound}
use Rattle.scope.specs.Scopes.{contains, elements, Scope, owns, add_input, use_input}
use Rattle.scope.specs.Inner.Shadowed.{InputsFound}
use Rattle.original.proofs.Laws.Outside.{found_outside, one_found, flag-found, foreign}

-- It is not owned.
not_owned : (a : Scope) (x : ℕ) → foreign a x ≡ true → owns a x ≡ false
not_owned a x h = ⊎_elim (λ (e : owns a x ≡ true). absurd (not-both h (ap not e))) (λ (e : owns a x ≡ false). e) (bool_cases (owns a x))

-- The inputs of the scope c that are foreign to a rise, and are found around a, if c's are found below p, which owns no more than a.
pub rise_found : (parents : List Scope) (p a c : Scope) → ((x : ℕ) → owns a x ≡ false → owns p x ≡ false) → InputsFound (p ∷ parents) c
    → InputsFound parents a → InputsFound parents (foldl add_input (use_input c.uses_input a) (filter (foreign a) (elements c.inputs)))
unfolding elements
rise_found parents p a c n f g =
    go (filter (foreign a) (elements c.inputs)) (all-kept (foreign a) (elements c.inputs))
    (all_filter (contains c.inputs) (foreign a) (elements c.inputs) (all-kept (contains c.inputs) (range 0 name_bound)))
    (use_input c.uses_input a) (flag-found parents a c.uses_input g)
  where
    go : (xs : List ℕ) → all (foreign a) xs ≡ true → all (contains c.inputs) xs ≡ true → (sc : Scope) → InputsFound parents sc
        → InputsFound parents (foldl add_input sc xs)
    go [] h i sc k = k
    go (y ∷ xs) h i sc k =
        go xs (and_right (foreign a y) _ h) (and_right (contains c.inputs y) _ i) (add_input sc y)
        (one_found parents sc y
        (found_outside p parents y (n y (not_owned a y (and_left (foreign a y) _ h))) (f y (and_left (contains c.inputs y) _ i))) k)
