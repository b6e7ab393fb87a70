-- Sets of numbers, given by their tests: when one lies in another.
use mathlib.Core.Path.{◌≡◌, refl}
use mathlib.Core.Bool.{Bool, true, ◌||◌}
use mathlib.Core.List.{List, [], ◌∷◌}
use mathlib.Core.Logic.{⊎_elim}
use Prim.Native.Nat.{ℕ}
use Rattle.base.proofs.Laws.Truth.{and_intro, and_left, and_right, or_left, or_right, or_cases}
use Rattle.base.specs.Lists.{all}

infix 4 ◌⊆◌
-- Every number in K is in L.
abbrev pub ◌⊆◌ : (ℕ → Bool) → (ℕ → Bool) → Type 0
K ⊆ L = (x : ℕ) → K x ≡ true → L x ≡ true

pub ⊆-refl : (K : ℕ → Bool) → K ⊆ K
⊆-refl K x h = h

pub all_mono : {K L : ℕ → Bool} → K ⊆ L → (l : List ℕ) → all K l ≡ true → all L l ≡ true
all_mono h [] e = refl
all_mono {K} h (x ∷ l) e = and_intro _ _ (h x (and_left _ _ e)) (all_mono h l (and_right (K x) _ e))

pub or_mono : {K L M N : ℕ → Bool} → K ⊆ M → L ⊆ N → (λ x. K x || L x) ⊆ (λ x. M x || N x)
or_mono {K} {L} {M} {N} k l x h =
    ⊎_elim (λ (e : K x ≡ true). or_left _ _ (k x e)) (λ (e : L x ≡ true). or_right (M x) _ (l x e)) (or_cases _ _ h)
