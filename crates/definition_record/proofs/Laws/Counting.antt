-- A set has no more members than a list that it holds.
use mathlib.Core.Path.{◌≡◌, refl, sym}
use mathlib.Core.Bool.{true, false}
use mathlib.Core.List.{List, [], ◌∷◌}
use Prim.Native.Nat.{ℕ, ◌*◌, ◌≤◌}
use native.Mathlib.Omega.{arith}
use lib.ListN.{length}
use Rattle.base.specs.Lists.{filter, elem, range}
use Rattle.base.proofs.Laws.Lists.{ascending, filter_same}
use Rattle.base.proofs.Laws.Ranges.{range-ascending}
use Rattle.base.specs.Sets.{member, members}
use Rattle.names.specs.Inner.Names.{Names}
use Rattle.scope.specs.Scopes.{insert}
use Rattle.definition_room.proofs.Laws.Extras.{filter-insert}
use Rattle.definition_walk.specs.Inner.Own.{Holds}

none_pass : (l : List ℕ) → length (filter (λ (y : ℕ). false) l) ≡ 0
none_pass [] = refl
none_pass (x ∷ l) = none_pass l

pub elem-few : (xs l : List ℕ) → ascending l ≡ true → length (filter (λ y. elem y xs) l) ≤ length xs
unfolding insert
elem-few [] l h = omega (arith, none_pass l)
elem-few (x ∷ xs) l h = omega (arith, filter-insert (λ y. elem y xs) x l h, elem-few xs l h)

pub held-few : (k : Names) (xs : List ℕ) → Holds k xs → length (members k.words) ≤ length xs
unfolding members
held-few k xs h =
    let top = 64 * length k.words in
    rw (filter_same (member k.words) (λ y. elem y xs) (λ n. sym (h.has n)) (range 0 top)) (elem-few xs (range 0 top) (range-ascending 0 top))
