-- Bool: the cases of a test, and the laws of `&&` and `||`.
use mathlib.Core.Path.{◌≡◌, refl, sym, ◌∙◌}
use mathlib.Core.Bool.{Bool, true, false, not, ◌&&◌, ◌||◌, or-true, true≢false, false≢true}
use mathlib.Core.Logic.{◌⊎◌, inl, inr, ⊎_elim}
use Prim.Native.Nat.{ℕ, ◌≤◌, ◌<◌}
use lib.Dec.{ltb, eqb}
use borrow.Author.Tests.{ltb-true, ltb-false, eqb-true, eqb-false, eq-eqb}

-- ---- cases

pub bool_cases : (b : Bool) → (b ≡ true) ⊎ (b ≡ false)
bool_cases true = inl refl
bool_cases false = inr refl

pub lt_cases : (a b : ℕ) → (a < b) ⊎ (b ≤ a)
lt_cases a b =
    ⊎_elim (λ (p : ltb a b ≡ true). inl (ltb-true a b p)) (λ (p : ltb a b ≡ false). inr (ltb-false a b p)) (bool_cases (ltb a b))

pub eq_cases : (a b : ℕ) → (a ≡ b) ⊎ (a ≡ b → ⊥)
eq_cases a b =
    ⊎_elim (λ (p : eqb a b ≡ true). inl (eqb-true a b p)) (λ (p : eqb a b ≡ false). inr (eqb-false a b p)) (bool_cases (eqb a b))

pub not-both : {b : Bool} → b ≡ true → b ≡ false → ⊥
not-both p q = true≢false (sym p ∙ q)

-- Two tests that imply each other are equal.
pub bool_ext : (a b : Bool) → (a ≡ true → b ≡ true) → (b ≡ true → a ≡ true) → a ≡ b
bool_ext true b to back = sym (to refl)
bool_ext false true to back = back refl
bool_ext false false to back = refl

pub eqb_sym : (a b : ℕ) → eqb a b ≡ eqb b a
eqb_sym a b = bool_ext _ _ (λ p. eq-eqb b a (sym (eqb-true a b p))) (λ p. eq-eqb a b (sym (eqb-true b a p)))

-- ---- and, or

pub and_intro : (a b : Bool) → a ≡ true → b ≡ true → (a && b) ≡ true
and_intro a b p q = rw (p, q)

pub and_left : (a b : Bool) → (a && b) ≡ true → a ≡ true
and_left true b h = refl
and_left false b h = h

pub and_right : (a b : Bool) → (a && b) ≡ true → b ≡ true
and_right true b h = h
and_right false b h = absurd (false≢true h)

pub or_left : (a b : Bool) → a ≡ true → (a || b) ≡ true
or_left a b p = rw p

pub or_right : (a b : Bool) → b ≡ true → (a || b) ≡ true
or_right true b p = refl
or_right false b p = p

pub or_cases : (a b : Bool) → (a || b) ≡ true → (a ≡ true) ⊎ (b ≡ true)
or_cases true b h = inl refl
or_cases false b h = inr h

-- Of two tests neither holds.
pub neither_left : (a b : Bool) → (a || b) ≡ false → a ≡ false
neither_left true b h = h
neither_left false b h = refl

pub neither_right : (a b : Bool) → (a || b) ≡ false → b ≡ false
neither_right true b h = absurd (true≢false h)
neither_right false b h = h

-- What is asked only where g holds.
pub and_on : (g a b : Bool) → (g ≡ true → a ≡ b) → (g && a) ≡ (g && b)
and_on true a b h = h refl
and_on false a b h = refl

pub or_on : (g a b : Bool) → (g ≡ true → a ≡ b) → (not g || a) ≡ (not g || b)
or_on true a b h = h refl
or_on false a b h = refl

pub or_left_comm : (a b c : Bool) → (a || (b || c)) ≡ (b || (a || c))
or_left_comm true b c = sym (or-true b)
or_left_comm false b c = refl
