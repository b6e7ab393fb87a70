-- The ways out of `long_field_at` and `field_at`.
use mathlib.Core.Path.{◌≡◌, sym, ap, ◌∙◌}
use mathlib.Core.Bool.{false}
use mathlib.Core.List.{List}
use Prim.Native.Nat.{ℕ, suc, ◌+◌, ◌*◌, ◌≤◌, ◌<◌}
use native.Mathlib.Omega.{arith}
use lib.ListN.{length, get_or, drop, length-drop}
use lib.Seq.{get_or-drop, drop-drop}
use Rattle.std.specs.Prelude.{Some}
use Rattle.sheet.specs.Text.{is_number}
use Rattle.sheet.specs.Inner.Digits.{digits_of}
use Rattle.sheet.proofs.Laws.TextRowLaws.{starts_spaced, starts_ended, no_more, no_space, no_newline, no_number}
use Rattle.sheet_values.specs.declared.Number.{Number}
use Rattle.sheet_values.specs.Inner.Numbers.{digit_at, NumberIs}
use Rattle.sheet_values.specs.Inner.Fields.{NoField, FieldIs}
use Rattle.sheet_values.proofs.Laws.NumberLaws.{digit_low, number_reading_first, number_reading_next, reading-done, one_digit}

module _ (s : List ℕ) (at separator : ℕ) where
  abbrev t : List ℕ
  t = drop at s

  pub field-none : is_number (digits_of t) ≡ false → NoField s at separator
  field-none h = record { no_space = λ p k. no_number t (suc k) h; no_newline = λ p. no_number t 0 h }

  module _ (high : at ≤ length s) (n : Number) (g : NumberIs t at n) where
    byte : get_or t (length (digits_of t)) 0 ≡ get_or s n.next 0
    byte = get_or-drop at s (length (digits_of t)) 0 ∙ ap (λ (j : ℕ). get_or s j 0) (sym g.next)

    pub field-over : length s ≤ n.next → NoField s at separator
    field-over h =
        let b : length t ≤ length (digits_of t) = omega (arith, g.next, length-drop at s) in
        record { no_space = λ p k. no_more t (suc (suc k)) b; no_newline = λ p. no_more t 1 b }

    module _ (h : n.next < length s) where
      inside : length (digits_of t) < length t
      inside = omega (arith, g.next, length-drop at s)

      pub field_wrong : (get_or s n.next 0 ≡ separator → ⊥) → NoField s at separator
      field_wrong ne = record {
        no_space = λ p k. no_space t inside k (λ q. ne (sym byte ∙ q ∙ sym p));
        no_newline = λ p. no_newline t inside (λ q. ne (sym byte ∙ q ∙ sym p));
      }

      pub field-good : get_or s n.next 0 ≡ separator → FieldIs s at separator (record { value = n.value; next = n.next + 1 })
      field-good e =
          let z : at + suc (length (digits_of t)) ≡ n.next + 1 = omega (arith, g.next) in
          let behind : drop (suc (length (digits_of t))) t ≡ drop (n.next + 1) s =
          drop-drop (suc (length (digits_of t))) at s ∙ ap (λ (j : ℕ). drop j s) z in
          let is-value = sym g.value in
          record {
            next = (omega (arith, g.next), omega arith);
            spaced = λ p. rw (is-value, behind) at (starts_spaced t inside g.is (byte ∙ e ∙ p));
            ended = λ p. rw (is-value, behind) at (starts_ended t inside g.is (byte ∙ e ∙ p));
          }

-- ---- one digit, and the separator behind it

module _ (s : List ℕ) (at separator d : ℕ) (h : at + 1 < length s) (e : get_or s (at + 1) 0 ≡ separator)
    (is : Some d ≡ digit_at (drop at s)) (small : d < 10) where
  -- A separator below the digits ends the number.
  one_read : separator < 48 → NumberIs (drop at s) at (record { value = d; next = at + 1 })
  one_read low =
      let one : 0 * 10 + d ≡ d = omega arith in
      let next = number_reading_next s at (number_reading_first s at (omega arith)) is (omega arith) in
      let none = digit_low s (at + 1) h (omega (arith, e)) in
      rw one at (reading-done s at next none (one_digit s at (omega arith)))

  as_read : separator < 48 → FieldIs s at separator (record { value = d; next = (at + 1) + 1 })
  as_read low = field-good s at separator (omega arith) _ (one_read low) h e

  pub field-digit : FieldIs s at separator (record { value = d; next = (at + 1) + 1 })
  field-digit = record {
    next = (omega arith, omega arith);
    spaced = λ p. (as_read (omega arith)).spaced p;
    ended = λ p. (as_read (omega arith)).ended p;
  }
