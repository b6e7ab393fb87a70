-- The loop of `number_at`.
use mathlib.Core.Path.{◌≡◌, refl, sym, ap, ◌∙◌}
use mathlib.Core.Bool.{Bool, true, false, cond}
use mathlib.Core.List.{List, [], ◌∷◌}
use Prim.Native.Nat.{ℕ, suc, ◌+◌, ◌-◌, ◌*◌, ◌≤◌, ◌<◌}
use native.Mathlib.Omega.{arith}
use lib.ListN.{length, get_or, take, drop, length-drop}
use lib.Seq.{get_or-drop, drop-drop, take_at}
use borrow.Author.Tests.{lt-leb}
use Rattle.std.specs.Prelude.{Some, None}
use Rattle.base.specs.Limits as limits
use Rattle.sheet.specs.Text.{digit, plain, value, is_number}
use Rattle.sheet.specs.Inner.Digits.{digits_of}
use Rattle.sheet.proofs.Laws.LineLaws.{drop-next}
use Rattle.sheet.proofs.Laws.DigitLaws.{digits_of-yes, digits_of_no, digits_of-digits, digits_of_split, value_le, number_big, number-plain}
use Rattle.sheet_values.specs.Inner.Numbers.{digit_at, NumberIs}

-- ---- the byte that decides whether a digit stands first

-- A digit does.
starts : (t : List ℕ) (d : ℕ) → Some d ≡ digit_at t
    → (0 < length t) × (digits_of t ≡ get_or t 0 0 ∷ digits_of (drop 1 t)) × (d ≡ get_or t 0 0 - 48)
starts [] d h = absurd cc
starts (b ∷ t) d h = go (digit b) refl h
  where
    go : (y : Bool) → digit b ≡ y → Some d ≡ cond y (Some (b - 48)) None
        → (0 < suc (length t)) × (digits_of (b ∷ t) ≡ b ∷ digits_of t) × (d ≡ b - 48)
    go true e g = (omega arith, digits_of-yes b t e, cc)
    go false e g = absurd cc

-- None does.
starts_not : (t : List ℕ) → None ≡ digit_at t → digits_of t ≡ []
unfolding digits_of
starts_not [] h = refl
starts_not (b ∷ t) h = go (digit b) refl h
  where
    go : (y : Bool) → digit b ≡ y → None ≡ cond y (Some (b - 48)) None → digits_of (b ∷ t) ≡ []
    go true e g = absurd cc
    go false e g = digits_of_no b t e

-- A byte below the digits is none.
pub digit_low : (s : List ℕ) (i : ℕ) → i < length s → get_or s i 0 < 48 → None ≡ digit_at (drop i s)
digit_low s i h l = sym (ap digit_at (drop-next s i h) ∙ rw (lt-leb 48 (get_or s i 0) l))

-- ---- the loop

-- The digits up to place i are read, and their value is v.
pub record ReadingNumber (s : List ℕ) (at v i : ℕ) : Type 0 where
  pub low : at ≤ i
  pub high : i ≤ length s
  pub small : v ≤ limits.largest_value
  pub value : value v (digits_of (drop i s)) ≡ value 0 (digits_of (drop at s))
  pub count : i + length (digits_of (drop i s)) ≡ at + length (digits_of (drop at s))

module _ (s : List ℕ) (at : ℕ) where
  abbrev ds : List ℕ
  ds = digits_of (drop at s)

  pub number_reading_first : at ≤ length s → ReadingNumber s at 0 at
  number_reading_first h = record { low = omega arith; high = h; small = omega arith; value = refl; count = refl }

  module _ {v i d : ℕ} (r : ReadingNumber s at v i) (h : Some d ≡ digit_at (drop i s)) where
    here : (0 < length (drop i s)) × (digits_of (drop i s) ≡ get_or s i 0 ∷ digits_of (drop (i + 1) s)) × (d ≡ get_or s i 0 - 48)
    here =
        let t = starts (drop i s) d h in
        let z : i + 0 ≡ i = omega arith in
        let b : get_or (drop i s) 0 0 ≡ get_or s i 0 = get_or-drop i s 0 0 ∙ ap (λ (k : ℕ). get_or s k 0) z in
        (t.0, rw (b, drop-drop 1 i s) at t.1, t.2 ∙ ap (λ (x : ℕ). x - 48) b)

    pub reading_in : i < length s
    reading_in = let a = here.0 in omega (arith, length-drop i s)

    step : value v (digits_of (drop i s)) ≡ value (v * 10 + d) (digits_of (drop (i + 1) s))
    unfolding value
    step = ap (value v) here.1 ∙ ap (λ (x : ℕ). value (v * 10 + x) (digits_of (drop (i + 1) s))) (sym here.2)

    pub number_reading_next : v * 10 + d ≤ limits.largest_value → ReadingNumber s at (v * 10 + d) (i + 1)
    number_reading_next g = record {
      low = omega (arith, r.low);
      high = omega (arith, reading_in);
      small = g;
      value = sym step ∙ r.value;
      count = omega (arith, r.count, ap length here.1);
    }

    -- The value is too large already.
    pub reading-over : limits.largest_value < v * 10 + d → is_number ds ≡ false
    reading-over g = number_big ds (omega (arith, r.value, step, value_le (v * 10 + d) (digits_of (drop (i + 1) s))))

  -- All digits are read.
  module _ {v i : ℕ} (r : ReadingNumber s at v i) (h : None ≡ digit_at (drop i s)) where
    none : digits_of (drop i s) ≡ []
    none = starts_not (drop i s) h

    value-is : v ≡ value 0 ds
    unfolding value
    value-is = sym (ap (value v) none) ∙ r.value

    next-is : i ≡ at + length ds
    next-is = omega (arith, r.count, ap length none)

    -- Those are the bytes read.
    digits-read : take (i - at) (drop at s) ≡ ds
    digits-read =
        let n : i - at ≡ length ds = omega (arith, next-is) in
        ap (λ (k : ℕ). take k (drop at s)) n ∙ ap (take (length ds)) (digits_of_split (drop at s))
        ∙ take_at ds (drop (length ds) (drop at s)) (length ds) refl

    plain-is : plain (take (i - at) (drop at s)) ≡ is_number ds
    plain-is =
        ap plain digits-read ∙ sym (number-plain ds (digits_of-digits (drop at s)) (omega (arith, r.small, value-is)))

    pub reading-unfit : plain (take (i - at) (drop at s)) ≡ false → is_number ds ≡ false
    reading-unfit f = sym plain-is ∙ f

    pub reading-done : plain (take (i - at) (drop at s)) ≡ true → NumberIs (drop at s) at (record { value = v; next = i })
    reading-done y = record { is = sym plain-is ∙ y; value = value-is; next = next-is }

pub one_digit : (s : List ℕ) (at : ℕ) → at < length s → plain (take (at + 1 - at) (drop at s)) ≡ true
one_digit s at h =
    let n : at + 1 - at ≡ 1 = omega arith in
    rw (n, drop-next s at h)
