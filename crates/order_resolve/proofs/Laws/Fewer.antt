-- A set that grows lacks fewer names: the measure of the passes.
use mathlib.Core.Path.{◌≡◌, refl, sym, ap, ◌∙◌}
use mathlib.Core.Bool.{Bool, true, false, ◌||◌}
use mathlib.Core.List.{List, [], ◌∷◌}
use mathlib.Core.Logic.{◌⊎◌, inl, inr, ⊎_elim}
use Prim.Native.Nat.{ℕ, zero, suc, ◌*◌, ◌≤◌, ◌<◌}
use native.Mathlib.Omega.{arith}
use lib.Dec.{eqb}
use lib.ListN.{length}
use borrow.Author.Tests.{eqb-true, eq-eqb}
use Rattle.base.proofs.Laws.Truth.{bool_cases, not-both, or_left, or_right, or_cases}
use Rattle.base.specs.Lists.{all, elem}
use Rattle.base.proofs.Laws.Subsets.{◌⊆◌}
use Rattle.order.specs.Inner.Count.{missing}
use Rattle.order.proofs.Laws.Count.{missing-insert}
use Rattle.base.specs.Sets.{member, members}
use Rattle.names.proofs.Laws.Laws.{member_below, elem-members}

missing_mono : (n : ℕ) (S U : ℕ → Bool) → S ⊆ U → missing n U ≤ missing n S
unfolding missing
missing_mono zero S U sub = omega arith
missing_mono (suc n) S U sub = go (bool_cases (S n)) (bool_cases (U n)) (missing_mono n S U sub)
  where
    go : (S n ≡ true) ⊎ (S n ≡ false) → (U n ≡ true) ⊎ (U n ≡ false) → missing n U ≤ missing n S
        → missing (suc n) U ≤ missing (suc n) S
    go (inl s) u ih = rw (s, sub n s) (omega arith)
    go (inr s) (inl u) ih = rw (s, u) (omega arith)
    go (inr s) (inr u) ih = rw (s, u) (omega arith)

missing_less : (n x : ℕ) (S U : ℕ → Bool) → S ⊆ U → x < n → S x ≡ false → U x ≡ true → missing n U < missing n S
missing_less n x S U sub h new there =
    omega (arith, missing-insert n x S (λ y. eqb y x || S y) (λ y. refl) h new, missing_mono n (λ y. eqb y x || S y) U within)
  where
    within : (λ y. eqb y x || S y) ⊆ U
    within y s = ⊎_elim (λ (e : eqb y x ≡ true). ap U (eqb-true y x e) ∙ there) (sub y) (or_cases _ _ s)

-- A test that not all pass, one fails.
all-fails : (f : ℕ → Bool) (l : List ℕ) → all f l ≡ false → (x : ℕ) × (elem x l ≡ true) × (f x ≡ false)
all-fails f [] h = absurd (not-both refl h)
all-fails f (x ∷ l) h = go (bool_cases (f x)) (all-fails f l)
  where
    go : (f x ≡ true) ⊎ (f x ≡ false) → (all f l ≡ false → (y : ℕ) × (elem y l ≡ true) × (f y ≡ false))
        → (y : ℕ) × (elem y (x ∷ l) ≡ true) × (f y ≡ false)
    go (inl p) ih = let r = ih (rw p at h) in (r.0, or_right (eqb r.0 x) _ r.1, r.2)
    go (inr p) ih = (x, or_left _ _ (eq-eqb x x refl), p)

-- If not every member of `more` is one of `seen`, though each of `seen` is one of `more`, then `more` lacks fewer.
pub fewer : (seen more : List ℕ) (n : ℕ) → 64 * length more ≡ n → member seen ⊆ member more → all (member seen) (members more) ≡ false
    → missing n (member more) < missing n (member seen)
fewer seen more n whole sub h =
    let r = all-fails (member seen) (members more) h in
    let there = sym (elem-members more r.0) ∙ r.1 in
    let below = member_below more r.0 there in
    missing_less n r.0 (member seen) (member more) sub (omega arith) r.2 there
