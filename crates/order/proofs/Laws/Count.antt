-- Laws of `Count`.
use mathlib.Core.Path.{◌≡◌, refl, ap, ◌∙◌}
use mathlib.Core.Bool.{Bool, true, false, ◌||◌}
use mathlib.Core.List.{List, [], ◌∷◌, ◌++◌}
use mathlib.Core.Logic.{◌⊎◌, inl, inr}
use Prim.Native.Nat.{ℕ, zero, suc, ◌+◌, ◌<◌}
use native.Mathlib.Omega.{arith}
use lib.Dec.{eqb}
use lib.ListN.{length, length-append}
use borrow.Author.Tests.{eq-eqb, ne_eqb}
use Rattle.base.proofs.Laws.Truth.{bool_cases, eq_cases}
use Rattle.base.specs.Lists.{elem}
use Rattle.base.proofs.Laws.Members.{elem-snoc}
use Rattle.order.specs.Inner.Count.{missing, AddsUp}

-- The count depends on the numbers below n alone.
pub missing-same : (n : ℕ) (S U : ℕ → Bool) → ((i : ℕ) → i < n → U i ≡ S i) → missing n U ≡ missing n S
unfolding missing
missing-same zero S U same = refl
missing-same (suc n) S U same = rw (missing-same n S U (λ i h. same i (omega arith)), same n (omega arith))

-- One more number in the set is one less missing.
pub missing-insert : (n i : ℕ) (S U : ℕ → Bool) → ((j : ℕ) → U j ≡ (eqb j i || S j)) → i < n → S i ≡ false
    → missing n S ≡ suc (missing n U)
unfolding missing
missing-insert zero i S U with-i h new = absurd (omega arith)
missing-insert (suc n) i S U with-i h new = go (eq_cases n i) (missing-insert n i S U with-i)
  where
    old : (j : ℕ) → (j ≡ i → ⊥) → U j ≡ S j
    old j ne = with-i j ∙ ap (λ (b : Bool). b || S j) (ne_eqb j i ne)

    go : (n ≡ i) ⊎ (n ≡ i → ⊥) → (i < n → S i ≡ false → missing n S ≡ suc (missing n U))
        → missing (suc n) S ≡ suc (missing (suc n) U)
    go (inl e) ih = rw (ap S e ∙ new, with-i n, eq-eqb n i e, missing-same n S U (λ j l. old j (λ q. omega arith))) (omega arith)
    go (inr ne) ih =
        let m : missing n S ≡ suc (missing n U) = ih (omega arith) new in
        rw (old n ne, m) (omega arith)

-- Nothing is missing exactly if every number below n is in the set.
pub missing-none : (n : ℕ) (S : ℕ → Bool) → missing n S ≡ 0 → (i : ℕ) → i < n → S i ≡ true
unfolding missing
missing-none zero S z i h = absurd (omega arith)
missing-none (suc n) S z i h = go (bool_cases (S n)) (eq_cases i n) (missing-none n S)
  where
    go : (S n ≡ true) ⊎ (S n ≡ false) → (i ≡ n) ⊎ (i ≡ n → ⊥) → (missing n S ≡ 0 → (i : ℕ) → i < n → S i ≡ true) → S i ≡ true
    go (inl s) (inl e) ih = ap S e ∙ s
    go (inl s) (inr ne) ih = ih (omega arith) i (omega arith)
    go (inr s) cases ih = let e : 1 + missing n S ≡ 0 = rw s at z in absurd (omega arith)

pub none-missing : (n : ℕ) (S : ℕ → Bool) → ((i : ℕ) → i < n → S i ≡ true) → missing n S ≡ 0
unfolding missing
none-missing zero S has = refl
none-missing (suc n) S has = rw (has n (omega arith), none-missing n S (λ i h. has i (omega arith)))

-- The empty list lacks all n.
pub nil_adds_up : (n : ℕ) → AddsUp n []
unfolding missing
nil_adds_up zero = refl
nil_adds_up (suc n) = omega (arith, nil_adds_up n)

-- A number that the list lacks may be put at its end.
pub snoc_adds_up : {n : ℕ} (i : ℕ) (l : List ℕ) → i < n → elem i l ≡ false → AddsUp n l → AddsUp n (l ++ (i ∷ []))
snoc_adds_up {n} i l h new s =
    let one = missing-insert n i (λ j. elem j l) (λ j. elem j (l ++ (i ∷ []))) (λ j. elem-snoc j i l) h new in
    omega (arith, length-append l (i ∷ []))

-- Such a list is n long exactly if every number below n is on it.
pub long_has_all : {n : ℕ} (l : List ℕ) → AddsUp n l → length l ≡ n → (i : ℕ) → i < n → elem i l ≡ true
long_has_all {n} l s e = missing-none n (λ i. elem i l) (omega arith)

pub all_is_long : {n : ℕ} (l : List ℕ) → AddsUp n l → ((i : ℕ) → i < n → elem i l ≡ true) → length l ≡ n
all_is_long {n} l s has = omega (arith, none-missing n (λ i. elem i l) has)
