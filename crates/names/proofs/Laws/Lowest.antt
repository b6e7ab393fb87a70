-- Laws of `Lowest`.
use mathlib.Core.Path.{◌≡◌, sym, ap, ◌∙◌}
use mathlib.Core.Bool.{true, false}
use mathlib.Core.Logic.{⊎_elim}
use Prim.Native.Nat.{ℕ, zero, suc, ◌+◌, ◌-◌, ◌/◌, ◌%◌, ◌^◌, ◌≤◌, ◌<◌}
use native.Mathlib.Omega.{arith}
use lib.Dec.{eqb}
use lib.Count.{count_trailing_zeros, trailing_le}
use Rattle.base.specs.Sets.{bit}
use Rattle.names.proofs.Laws.Bits.{digit_cases, bit-first, bit_shr, bit-suc}
use Rattle.names.specs.Inner.Lowest.{LowestBit}

trailing_even : (d w : ℕ) → w % 2 ≡ 0 → count_trailing_zeros (suc d) w ≡ suc (count_trailing_zeros d (w / 2))
unfolding count_trailing_zeros
trailing_even d w q = rw q

trailing_odd : (d w : ℕ) → w % 2 ≡ 1 → count_trailing_zeros (suc d) w ≡ 0
unfolding count_trailing_zeros
trailing_odd d w q = rw q

-- It is set, where there is one.
trailing_set : (d w : ℕ) → count_trailing_zeros d w < d → bit w (count_trailing_zeros d w) ≡ true
trailing_set zero w h = absurd (omega arith)
trailing_set (suc d) w h =
    ⊎_elim
    (λ (q : w % 2 ≡ 0).
    rw (trailing_even d w q) (bit-suc w (count_trailing_zeros d (w / 2)) ∙ trailing_set d (w / 2) (omega (arith, trailing_even d w q))))
    (λ (q : w % 2 ≡ 1). rw (trailing_odd d w q) (bit-first w ∙ ap (λ (x : ℕ). eqb x 1) q))
    (digit_cases (w % 2) (omega arith))

-- None below it is.
trailing_below : (d w k : ℕ) → k < count_trailing_zeros d w → bit w k ≡ false
trailing_below zero w k h = absurd (omega (arith, trailing_le 0 w))
trailing_below (suc d) w zero h =
    ⊎_elim (λ (q : w % 2 ≡ 0). bit-first w ∙ ap (λ (x : ℕ). eqb x 1) q) (λ (q : w % 2 ≡ 1). absurd (omega (arith, trailing_odd d w q)))
    (digit_cases (w % 2) (omega arith))
trailing_below (suc d) w (suc k) h =
    ⊎_elim (λ (q : w % 2 ≡ 0). bit-suc w k ∙ trailing_below d (w / 2) k (omega (arith, trailing_even d w q)))
    (λ (q : w % 2 ≡ 1). absurd (omega (arith, trailing_odd d w q))) (digit_cases (w % 2) (omega arith))

-- The word shifted down to bit a shows its bits from a up.
pub lowest_shifted : (w a : ℕ) → LowestBit w a (a + count_trailing_zeros 64 (w / 2 ^ a))
lowest_shifted w a =
    let rest = w / 2 ^ a in
    record {
      low = omega arith;
      gap = λ k l u. let e : k ≡ a + (k - a) = omega arith in
          ap (bit w) e ∙ sym (bit_shr w a (k - a)) ∙ trailing_below 64 rest (k - a) (omega arith);
      found = λ h. sym (bit_shr w a (count_trailing_zeros 64 rest)) ∙ trailing_set 64 rest (omega arith);
    }

-- From bit 64 up there is none.
pub lowest_none : (w a : ℕ) → 64 ≤ a → LowestBit w a 64
lowest_none w a h = record { low = omega arith; gap = λ k l u. absurd (omega arith); found = λ l. absurd (omega arith) }
