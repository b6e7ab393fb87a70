-- What reading a number gives.
use Rattle.std.specs.Prelude.{◌≡◌, true, false, cond, List, [], ◌∷◌, ℕ, ◌+◌, ◌-◌, length, Option, Some, None}
use Rattle.sheet.specs.Text.{digit, value, is_number}
use Rattle.sheet.specs.Inner.Digits.{digits_of}
use Rattle.sheet_values.specs.declared.Number.{Number}

-- The digit that bytes start with.
abbrev pub digit_at : List ℕ → Option ℕ
digit_at [] = None
digit_at (b ∷ s) = cond (digit b) (Some (b - 48)) None

-- The digits that bytes start with, at a place, are the number n.
pub record NumberIs (s : List ℕ) (at : ℕ) (n : Number) : Type 0 where
  pub is : is_number (digits_of s) ≡ true
  pub value : n.value ≡ value 0 (digits_of s)
  pub next : n.next ≡ at + length (digits_of s)

-- The bytes s, at a place, start with digits that are a number, or do not.
abbrev pub NumberRead : List ℕ → ℕ → Option Number → Type 0
NumberRead s at None = is_number (digits_of s) ≡ false
NumberRead s at (Some n) = NumberIs s at n
