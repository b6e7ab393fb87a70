-- A value as it is written is read back as that value.
use mathlib.Core.Path.{◌≡◌, refl, ◌∙◌}
use mathlib.Core.Bool.{true, false, cond}
use mathlib.Core.List.{List, [], ◌∷◌, ◌++◌}
use mathlib.Core.Logic.{◌⊎◌, inl, inr}
use Prim.Native.Nat.{ℕ, zero, suc, ◌+◌, ◌-◌, ◌*◌, ◌/◌, ◌%◌, ◌^◌, ◌≤◌, ◌<◌}
use native.Mathlib.Nat.{pow-suc}
use native.Mathlib.Omega.{arith}
use lib.Dec.{ltb}
use Rattle.base.proofs.Laws.Truth.{bool_cases}
use Rattle.sheet.specs.Text.{value}
use Rattle.answer.specs.Text.{digits, decimal}

value-last : (w : List ℕ) (v b : ℕ) → value v (w ++ (b ∷ [])) ≡ value v w * 10 + (b - 48)
unfolding value
value-last [] v b = refl
value-last (c ∷ w) v b = value-last w (v * 10 + (c - 48)) b

digits_value : (k n : ℕ) → n < 10 ^ k → value 0 (digits k n) ≡ n
unfolding value digits
digits_value zero n h = omega arith
digits_value (suc k) n h = go (bool_cases (ltb n 10)) (digits_value k (n / 10))
  where
    go : (ltb n 10 ≡ true) ⊎ (ltb n 10 ≡ false) → (n / 10 < 10 ^ k → value 0 (digits k (n / 10)) ≡ n / 10)
        → value 0 (cond (ltb n 10) ((48 + n) ∷ []) (digits k (n / 10) ++ ((48 + n % 10) ∷ []))) ≡ n
    go (inl e) ih = rw e (omega arith)
    go (inr e) ih =
        let p : 10 ^ suc k ≡ 10 ^ k * 10 = pow-suc 10 k in
        let l : n / 10 < 10 ^ k = omega arith in
        rw e (value-last (digits k (n / 10)) 0 (48 + n % 10) ∙ rw (ih l) (omega arith))

-- Every value of an answer is at most 65,535.
pub decimal-value : (n : ℕ) → n ≤ 65535 → value 0 (decimal n) ≡ n
decimal-value n h = digits_value 5 n (omega arith)
