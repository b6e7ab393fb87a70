-- A list that grows by steps: what the steps add is on it, and nothing else.
use mathlib.Core.Path.{◌≡◌, subst}
use mathlib.Core.List.Memᴰ
use mathlib.Core.List.{List, ◌++◌, Memᴰ}
use mathlib.Core.Logic.{◌⊎◌, inl, inr, ⊎_elim}
use Prim.Native.Nat.{ℕ, zero, suc, ◌+◌, ◌-◌, ◌≤◌}
use native.Mathlib.Omega.{arith}

module _ {A : Type 0} (g h : ℕ → List A) (step : (i : ℕ) → g (suc i) ≡ g i ++ h (suc i)) where
  keeps : {a : A} (i n : ℕ) → Memᴰ a (g i) → Memᴰ a (g (i + n))
  keeps {a} i zero m = let e : i ≡ i + 0 = omega arith in subst (λ (j : ℕ). Memᴰ a (g j)) e m
  keeps {a} i (suc n) m =
      let e : suc (i + n) ≡ i + suc n = omega arith in
      subst (λ (j : ℕ). Memᴰ a (g j)) e (rw (step (i + n)) (Memᴰ.append_left (h (suc (i + n))) (keeps i n m)))

  pub first_in : {a : A} (n : ℕ) → Memᴰ a (g 0) → Memᴰ a (g n)
  first_in {a} n m = let e : 0 + n ≡ n = omega arith in subst (λ (j : ℕ). Memᴰ a (g j)) e (keeps 0 n m)

  pub step_in : {a : A} (n i : ℕ) → suc i ≤ n → Memᴰ a (h (suc i)) → Memᴰ a (g n)
  step_in {a} n i l m =
      let e : suc i + (n - suc i) ≡ n = omega arith in
      subst (λ (j : ℕ). Memᴰ a (g j)) e (keeps (suc i) (n - suc i) (rw (step i) (Memᴰ.append_right (g i) m)))

  pub step_of : {a : A} (n : ℕ) → Memᴰ a (g n) → Memᴰ a (g 0) ⊎ ((i : ℕ) × (suc i ≤ n) × Memᴰ a (h (suc i)))
  step_of zero m = inl m
  step_of {a} (suc n) m =
      ⊎_elim (λ (p : Memᴰ a (g n)). later (step_of n p)) (λ (p : Memᴰ a (h (suc n))). inr (n, omega arith, p))
      (Memᴰ.append_cases (g n) (rw (step n) at m))
    where
      later : Memᴰ a (g 0) ⊎ ((i : ℕ) × (suc i ≤ n) × Memᴰ a (h (suc i)))
          → Memᴰ a (g 0) ⊎ ((i : ℕ) × (suc i ≤ suc n) × Memᴰ a (h (suc i)))
      later (inl p) = inl p
      later (inr p) = let l = p.1 in inr (p.0, omega arith, p.2)
