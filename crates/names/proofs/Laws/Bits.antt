-- The bits of one word: what each operation on words does to them, and that they tell words apart.
use mathlib.Core.Path.{◌≡◌, refl, sym, ap, ◌∙◌}
use mathlib.Core.Bool.{Bool, true, false, not, cond, ◌&&◌, ◌||◌}
use mathlib.Core.Logic.{◌⊎◌, inl, inr, ⊎_elim}
use Prim.Native.Nat.{ℕ, zero, suc, ◌+◌, ◌-◌, ◌*◌, ◌/◌, ◌%◌, ◌^◌, ◌≤◌, ◌<◌}
use native.Mathlib.Nat.{div-eq_of_lt, pow-suc, div-one, lt_of_lt_of_le}
use native.Mathlib.Omega.{arith}
use lib.Dec.{eqb, lit<, eqb-suc-zero, eqb-zero-suc, eqb-suc-suc}
use lib.Pow.{pow_mono, shr-shr, shl_exact}
use lib.Bits.{bit_and, bit_or, and_shr, and_mod, or_shr, or_mod, or_lt}
use Rattle.base.proofs.Laws.Truth.{bool_ext, or_left, or_right, or_cases}
use Rattle.base.specs.Sets.{bit}

-- ---- the lowest digit

abbrev odd : ℕ → Bool
odd w = eqb (w % 2) 1

pub digit_cases : (a : ℕ) → a < 2 → (a ≡ 0) ⊎ (a ≡ 1)
digit_cases zero h = inl refl
digit_cases (suc zero) h = inr refl
digit_cases (suc (suc a)) h = absurd (omega arith)

digit_value : (a : ℕ) → a < 2 → a ≡ cond (eqb a 1) 1 0
digit_value a h = ⊎_elim (λ (p : a ≡ 0). rw p) (λ (p : a ≡ 1). rw p) (digit_cases a h)

-- ---- a word's bits, from the lowest up

pub bit-first : (w : ℕ) → bit w 0 ≡ eqb (w % 2) 1
unfolding bit
bit-first w = ap odd (div-one w)

pub bit_shr : (w a k : ℕ) → bit (w / 2 ^ a) k ≡ bit w (a + k)
unfolding bit
bit_shr w a k = ap odd (shr-shr w a k)

pub bit-suc : (w k : ℕ) → bit w (suc k) ≡ bit (w / 2) k
bit-suc w k = let s : suc k ≡ 1 + k = omega arith in ap (bit w) s ∙ sym (bit_shr w 1 k)

-- A word below 2 ^ d has no bit from d up.
bit_high : (w d k : ℕ) → w < 2 ^ d → d ≤ k → bit w k ≡ false
unfolding bit
bit_high w d k h l = ap odd (div-eq_of_lt (lt_of_lt_of_le h (pow_mono l)))

pub bit_of_zero : (k : ℕ) → bit 0 k ≡ false
bit_of_zero k = bit_high 0 0 k (lit< tt) (omega arith)

-- Words below 2 ^ d with the same bits are equal.
pub bits_ext : (d a b : ℕ) → a < 2 ^ d → b < 2 ^ d → ((k : ℕ) → k < d → bit a k ≡ bit b k) → a ≡ b
bits_ext zero a b ha hb same = omega arith
bits_ext (suc d) a b ha hb same =
    let p = pow-suc 2 d in
    let high : a / 2 ≡ b / 2 =
    bits_ext d (a / 2) (b / 2) (omega arith) (omega arith) (λ k h. sym (bit-suc a k) ∙ same (suc k) (omega arith) ∙ bit-suc b k) in
    let digit : odd a ≡ odd b = sym (bit-first a) ∙ same 0 (omega arith) ∙ bit-first b in
    let low : a % 2 ≡ b % 2 =
    digit_value (a % 2) (omega arith) ∙ ap (λ (d : Bool). cond d 1 0) digit ∙ sym (digit_value (b % 2) (omega arith)) in
    omega arith

-- ---- and, or, complement

-- An operation that goes digit by digit, and is g on digits, is g on the bits.
module _ (op : ℕ → ℕ → ℕ) (g : Bool → Bool → Bool)
    (high : (a b k : ℕ) → op a b / 2 ^ k ≡ op (a / 2 ^ k) (b / 2 ^ k))
    (low : (a b k : ℕ) → op a b % 2 ^ k ≡ op (a % 2 ^ k) (b % 2 ^ k))
    (h00 : eqb (op 0 0) 1 ≡ g false false) (h01 : eqb (op 0 1) 1 ≡ g false true)
    (h10 : eqb (op 1 0) 1 ≡ g true false) (h11 : eqb (op 1 1) 1 ≡ g true true) where
  bit_op : (a b k : ℕ) → bit (op a b) k ≡ g (bit a k) (bit b k)
  unfolding bit
  bit_op a b k =
      ap odd (high a b k) ∙ ap (λ (d : ℕ). eqb d 1) (low (a / 2 ^ k) (b / 2 ^ k) 1)
      ∙ go (digit_cases (a / 2 ^ k % 2) (omega arith)) (digit_cases (b / 2 ^ k % 2) (omega arith))
    where
      go : {x y : ℕ} → (x ≡ 0) ⊎ (x ≡ 1) → (y ≡ 0) ⊎ (y ≡ 1) → eqb (op x y) 1 ≡ g (eqb x 1) (eqb y 1)
      go (inl p) (inl q) = rw (p, q) h00
      go (inl p) (inr q) = rw (p, q) h01
      go (inr p) (inl q) = rw (p, q) h10
      go (inr p) (inr q) = rw (p, q) h11

pub bit-and : (a b k : ℕ) → bit (bit_and a b) k ≡ (bit a k && bit b k)
bit-and = bit_op bit_and (λ x y. x && y) and_shr and_mod refl refl refl refl

pub bit-or : (a b k : ℕ) → bit (bit_or a b) k ≡ (bit a k || bit b k)
bit-or = bit_op bit_or (λ x y. x || y) or_shr or_mod refl refl refl refl

bit_not : (d w k : ℕ) → w < 2 ^ d → k < d → bit (2 ^ d - 1 - w) k ≡ not (bit w k)
bit_not zero w k h l = absurd (omega arith)
bit_not (suc d) w zero h l = bit-first (2 ^ suc d - 1 - w) ∙ go (digit_cases (w % 2) (omega arith)) ∙ ap not (sym (bit-first w))
  where
    go : (w % 2 ≡ 0) ⊎ (w % 2 ≡ 1) → odd (2 ^ suc d - 1 - w) ≡ not (odd w)
    go (inl p) = let e : (2 ^ suc d - 1 - w) % 2 ≡ 1 = omega (arith, pow-suc 2 d) in rw (p, e)
    go (inr p) = let e : (2 ^ suc d - 1 - w) % 2 ≡ 0 = omega (arith, pow-suc 2 d) in rw (p, e)
bit_not (suc d) w (suc k) h l =
    let p = pow-suc 2 d in
    let e : (2 ^ suc d - 1 - w) / 2 ≡ 2 ^ d - 1 - w / 2 = omega arith in
    bit-suc (2 ^ suc d - 1 - w) k ∙ ap (λ (v : ℕ). bit v k) e
    ∙ bit_not d (w / 2) k (omega arith) (omega arith) ∙ ap not (sym (bit-suc w k))

pub bit_and_not : (a b k : ℕ) → b < 2 ^ 64 → k < 64 → bit (bit_and a (2 ^ 64 - 1 - b)) k ≡ (bit a k && not (bit b k))
bit_and_not a b k h l = bit-and a (2 ^ 64 - 1 - b) k ∙ ap (λ (v : Bool). bit a k && v) (bit_not 64 b k h l)

-- ---- a word with one bit

pub bit_pow : (t k : ℕ) → bit (2 ^ t) k ≡ eqb k t
bit_pow zero zero = bit-first 1
bit_pow zero (suc k) = bit-suc 1 k ∙ bit_of_zero k ∙ sym (eqb-suc-zero k)
bit_pow (suc t) zero =
    let e : 2 ^ suc t % 2 ≡ 0 = rw (pow-suc 2 t) (omega arith) in
    bit-first (2 ^ suc t) ∙ ap (λ (d : ℕ). eqb d 1) e ∙ sym (eqb-zero-suc t)
bit_pow (suc t) (suc k) =
    let e : 2 ^ suc t / 2 ≡ 2 ^ t = rw (pow-suc 2 t) (omega arith) in
    bit-suc (2 ^ suc t) k ∙ ap (λ (v : ℕ). bit v k) e ∙ bit_pow t k ∙ sym (eqb-suc-suc k t)

-- What `1 << t` is.
pub mask : (t : ℕ) → t < 64 → (1 * 2 ^ t) % 2 ^ 64 ≡ 2 ^ t
mask t h = shl_exact 1 t 64 (lit< tt) (omega arith) ∙ omega arith

-- ---- a word whose bits are all bits of another

pub or-within : (a b : ℕ) → bit_or a b ≡ b → (k : ℕ) → bit a k ≡ true → bit b k ≡ true
or-within a b e k m = ap (λ (w : ℕ). bit w k) (sym e) ∙ bit-or a b k ∙ or_left _ _ m

pub within-or : (d a b : ℕ) → a < 2 ^ d → b < 2 ^ d → ((k : ℕ) → k < d → bit a k ≡ true → bit b k ≡ true) → bit_or a b ≡ b
within-or d a b ha hb h = bits_ext d (bit_or a b) b (or_lt d a b ha hb) hb (λ k l. bit-or a b k ∙ same k l)
  where
    same : (k : ℕ) → k < d → (bit a k || bit b k) ≡ bit b k
    same k l = bool_ext _ _ (λ m. ⊎_elim (h k l) (λ (s : bit b k ≡ true). s) (or_cases _ _ m)) (or_right (bit a k) (bit b k))
