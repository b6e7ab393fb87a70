-- Laws of `Writes`.
use mathlib.Core.Path.{◌≡◌, refl, sym, ap, ◌∙◌, subst}
use mathlib.Core.List.{List, [], ◌++◌, append_assoc, append-nil}
use mathlib.Core.Logic.{◌⊎◌, inl, inr, ⊎_elim}
use Prim.Native.Nat.{ℕ, ◌+◌, ◌-◌, ◌≤◌, ◌<◌}
use native.Mathlib.Omega.{arith}
use lib.ListN.{length, get_or, replicate, length-append, get_or-append, get_or-replicate, length-replicate, get_or-eq_default}
use lib.Seq.{get_or-append-add, ext_get_or}
use Rattle.base.proofs.Laws.Truth.{lt_cases}
use Rattle.answer_write.specs.Inner.Writes.{Wrote, Puts}

-- ---- bytes, one after the other

pub put_none : (b : List ℕ) (at : ℕ) → Puts b at [] b at
put_none b at = (refl, λ text w. subst (λ (t : List ℕ). Wrote b t at) (sym (append-nil text)) w)

pub puts_then : (b : List ℕ) (at : ℕ) (k : List ℕ) (c : List ℕ) (r : ℕ) (l d : List ℕ) (q : ℕ)
    → Puts b at k c r → Puts c r l d q → Puts b at (k ++ l) d q
puts_then b at k c r l d q f g =
    (g.0 ∙ f.0, λ text w. subst (λ (t : List ℕ). Wrote d t q) (append_assoc text k l) (g.1 (text ++ k) (f.1 text w)))

-- ---- all of it

-- Nothing is written yet.
pub starts : (n : ℕ) → Wrote (replicate n 0) [] 0
starts n = record {
  placed = inl (refl, omega arith);
  holds = λ i inside low. absurd (omega arith);
  zeros = λ i high. zero-at i (lt_cases i n);
}
  where
    zero-at : (i : ℕ) → (i < n) ⊎ (n ≤ i) → get_or {A = ℕ} (replicate n 0) i 0 ≡ 0
    zero-at i (inl h) = get_or-replicate n i 0 0 h
    zero-at i (inr h) = get_or-eq_default (replicate n 0) 0 (omega (arith, length-replicate {A = ℕ} n 0))

module _ (b text : List ℕ) (at : ℕ) (w : Wrote b text at) where
  abbrev whole : List ℕ
  whole = text ++ replicate (length b - length text) 0

  module _ (fit : length text ≤ length b) where
    whole_length : length b ≡ length whole
    whole_length =
        let n = length-append text (replicate (length b - length text) 0) in
        let m = length-replicate {A = ℕ} (length b - length text) 0 in
        omega arith

    whole-at : (i : ℕ) → i < length b → (i < length text) ⊎ (length text ≤ i) → get_or b i 0 ≡ get_or whole i 0
    whole-at i low (inl n) = w.holds i low n ∙ sym (get_or-append text (replicate (length b - length text) 0) 0 i n)
    whole-at i low (inr n) =
        let e : i ≡ length text + (i - length text) = omega arith in
        w.zeros i n
        ∙ sym (ap (λ (k : ℕ). get_or whole k 0) e ∙ get_or-append-add text (replicate (length b - length text) 0) (i - length text) 0
        ∙ get_or-replicate (length b - length text) (i - length text) 0 0 (omega arith))

    is_whole : b ≡ whole
    is_whole = ext_get_or 0 b whole whole_length (λ i low. whole-at i low (lt_cases i (length text)))

  -- A place within the bytes says that the text fits, and then the bytes are the text and zeros behind it.
  pub fits_whole : at ≤ length b → (length text ≤ length b) × (b ≡ whole)
  fits_whole h =
      let fit : length text ≤ length b = ⊎_elim (λ p. omega (arith, p.0, p.1)) (λ p. absurd (omega (arith, p.0))) w.placed in
      (fit, is_whole fit)

-- And a place past the end that it does not.
pub fits_not : (b text : List ℕ) (at : ℕ) → Wrote b text at → length b < at → length b < length text
fits_not b text at w h = ⊎_elim (λ p. absurd (omega (arith, p.1))) (λ p. p.1) w.placed
