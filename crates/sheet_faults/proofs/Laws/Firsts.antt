-- The first row at fault, one row after the other.
use mathlib.Core.Path.{◌≡◌, sym, ap, ◌∙◌}
use mathlib.Core.Bool.{Bool, true, false, cond}
use Prim.Native.Nat.{ℕ, suc, ◌+◌, ◌-◌, ◌≤◌, ◌<◌}
use native.Mathlib.Numerals.{add-one}
use native.Mathlib.Omega.{arith}
use borrow.Author.Tests.{eq-eqb, ne_eqb}
use Rattle.sheet.specs.declared.Counts.{Counts}
use Rattle.sheet.specs.Form.{line_of, line_or}
use Rattle.sheet.specs.Faults.{first_at_fault, listed}

module _ (f : ℕ → Bool) (n : ℕ) where
  module _ (r : ℕ) where
    first-at : r ≤ n → cond (f r) r (first_at_fault f (r + 1) (n + 1 - (r + 1))) ≡ first_at_fault f r (n + 1 - r)
    unfolding first_at_fault
    first-at h =
        let e : n + 1 - r ≡ suc (n + 1 - (r + 1)) = omega arith in
        ap (λ (k : ℕ). cond (f r) r (first_at_fault f k (n + 1 - (r + 1)))) (add-one r) ∙ sym (ap (first_at_fault f r) e)

    pub first-here : r ≤ n → f r ≡ true → r ≡ first_at_fault f r (n + 1 - r)
    first-here h e = sym (ap (λ (b : Bool). cond b r (first_at_fault f (r + 1) (n + 1 - (r + 1)))) e) ∙ first-at h

    pub first_next : r ≤ n → f r ≡ false → first_at_fault f (r + 1) (n + 1 - (r + 1)) ≡ first_at_fault f r (n + 1 - r)
    first_next h e = sym (ap (λ (b : Bool). cond b r (first_at_fault f (r + 1) (n + 1 - (r + 1)))) e) ∙ first-at h

    pub first_done : n < r → 0 ≡ first_at_fault f r (n + 1 - r)
    unfolding first_at_fault
    first_done h = let e : n + 1 - r ≡ 0 = omega arith in sym (ap (first_at_fault f r) e)

-- ---- the first line, one section after the other

module _ (c : Counts) (k l other r first : ℕ) (is : r ≡ first) where
  pub line-here : (r ≡ 0 → ⊥) → l ≡ line_of (listed c) k r → l ≡ line_or (listed c) k first other
  line-here z e = e ∙ ap (line_of (listed c) k) is ∙ sym (rw (ne_eqb first 0 (λ y. z (is ∙ y))))

  pub line-later : r ≡ 0 → l ≡ other → l ≡ line_or (listed c) k first other
  line-later z e = e ∙ sym (rw (eq-eqb first 0 (sym is ∙ z)))
