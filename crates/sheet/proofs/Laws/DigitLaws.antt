-- Laws of `DigitLaws`.
use mathlib.Core.Path.{◌≡◌, refl, ap}
use mathlib.Core.Bool.{Bool, true, false, and-true, and-false}
use mathlib.Core.List.{List, [], ◌∷◌, ◌++◌}
use Prim.Native.Nat.{ℕ, ◌+◌, ◌-◌, ◌*◌, ◌≤◌, ◌<◌}
use native.Mathlib.Omega.{arith}
use lib.ListN.{length, get_or, drop}
use borrow.Author.Tests.{le-leb, lt-leb}
use Rattle.base.specs.Limits as limits
use Rattle.base.specs.Lists.{all}
use Rattle.sheet.specs.Text.{digit, plain, value, is_number}
use Rattle.sheet.specs.Inner.Digits.{digits_of, keep}

pub digits_of-yes : (b : ℕ) (s : List ℕ) → digit b ≡ true → digits_of (b ∷ s) ≡ b ∷ digits_of s
unfolding digits_of
digits_of-yes b s h = rw h

pub digits_of_no : (b : ℕ) (s : List ℕ) → digit b ≡ false → digits_of (b ∷ s) ≡ []
unfolding digits_of
digits_of_no b s h = rw h

-- What is said of the digits of bytes, said at the first of them.
module _ (P : List ℕ → List ℕ → Type 0) (none : P [] []) (stop : (b : ℕ) (s : List ℕ) → digit b ≡ false → P (b ∷ s) [])
    (more : (b : ℕ) (s : List ℕ) → digit b ≡ true → P s (digits_of s) → P (b ∷ s) (b ∷ digits_of s)) where
  pub by_digits : (s : List ℕ) → P s (digits_of s)
  unfolding digits_of
  by_digits [] = none
  by_digits (b ∷ s) = go (digit b) refl (by_digits s)
    where
      go : (d : Bool) → digit b ≡ d → P s (digits_of s) → P (b ∷ s) (keep d b (digits_of s))
      go true e h = more b s e h
      go false e h = stop b s e

-- All of them are digits, the next byte is none, and they are what the bytes start with.
pub digits_of-digits : (s : List ℕ) → all digit (digits_of s) ≡ true
digits_of-digits = by_digits (λ s ds. all digit ds ≡ true) refl (λ b s e. refl) (λ b s e h. rw (e, h))

pub digits_of-next : (s : List ℕ) → digit (get_or s (length (digits_of s)) 0) ≡ false
digits_of-next = by_digits (λ s ds. digit (get_or s (length ds) 0) ≡ false) refl (λ b s e. e) (λ b s e h. h)

pub digits_of_split : (s : List ℕ) → s ≡ digits_of s ++ drop (length (digits_of s)) s
digits_of_split = by_digits (λ s ds. s ≡ ds ++ drop (length ds) s) refl (λ b s e. refl) (λ b s e h. ap (λ (l : List ℕ). b ∷ l) h)

-- ---- a number

-- More digits make no smaller value.
pub value_le : (v : ℕ) (w : List ℕ) → v ≤ value v w
unfolding value
value_le v [] = omega arith
value_le v (b ∷ w) = let h = value_le (v * 10 + (b - 48)) w in omega arith

pub number_big : (w : List ℕ) → limits.largest_value < value 0 w → is_number w ≡ false
unfolding is_number
number_big w h = rw (lt-leb (value 0 w) limits.largest_value h, and-false (plain w)) (and-false (all digit w))

pub number-plain : (w : List ℕ) → all digit w ≡ true → value 0 w ≤ limits.largest_value → is_number w ≡ plain w
unfolding is_number
number-plain w d h = rw (d, le-leb (value 0 w) limits.largest_value h) (and-true (plain w))

pub number_digits : (w : List ℕ) → all digit w ≡ false → is_number w ≡ false
unfolding is_number
number_digits w h = rw h
