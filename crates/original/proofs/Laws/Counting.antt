-- How often a number stands on a list. Where each stands there at most once, none stands there twice.
use mathlib.Core.Path.{◌≡◌, refl, ap}
use mathlib.Core.Bool.{true, false, cond, not}
use mathlib.Core.List.{List, [], ◌∷◌}
use mathlib.Core.Logic.{◌⊎◌, inl, inr}
use Prim.Native.Nat.{ℕ, ◌+◌, ◌≤◌}
use native.Mathlib.Omega.{arith}
use lib.Dec.{eqb}
use borrow.Author.Tests.{eq-eqb}
use Rattle.base.proofs.Laws.Truth.{bool_cases, not-both, or_cases, and_intro}
use Rattle.base.specs.Lists.{elem, concat_map}
use Rattle.definition_room.specs.Inner.Sizes.{total}
use Rattle.definition_room.proofs.Laws.Lists.{total-append}
use Rattle.original.specs.Inner.Distinct.{distinct}

-- One if it is the number k.
abbrev pub is : ℕ → ℕ → ℕ
is k x = cond (eqb k x) 1 0

-- How often k stands on a list.
abbrev pub count : ℕ → List ℕ → ℕ
count k l = total (is k) l

-- Sums over what is put together.
pub total-concat_map : {A B : Type 0} (f : B → ℕ) (h : A → List B) (l : List A) → total f (concat_map h l) ≡ total (λ a. total f (h a)) l
total-concat_map f h [] = refl
total-concat_map f h (x ∷ l) = omega (arith, total-append f (h x) (concat_map h l), total-concat_map f h l)

-- A number on the list stands there at least once.
counted : (k : ℕ) (l : List ℕ) → elem k l ≡ true → 1 ≤ count k l
counted k [] h = absurd (not-both h refl)
counted k (x ∷ l) h = go (or_cases (eqb k x) (elem k l) h) (counted k l)
  where
    go : (eqb k x ≡ true) ⊎ (elem k l ≡ true) → (elem k l ≡ true → 1 ≤ count k l) → 1 ≤ is k x + count k l
    go (inl e) ih = rw e (omega arith)
    go (inr m) ih = omega (arith, ih m)

-- Each at most once: none twice.
pub once-distinct : (l : List ℕ) → ((k : ℕ) → count k l ≤ 1) → distinct l ≡ true
once-distinct [] h = refl
once-distinct (x ∷ l) h =
    and_intro (not (elem x l)) (distinct l) (ap not (go (bool_cases (elem x l)))) (once-distinct l (λ k. omega (arith, h k)))
  where
    one : is x x ≡ 1
    one = rw (eq-eqb x x refl)

    go : (elem x l ≡ true) ⊎ (elem x l ≡ false) → elem x l ≡ false
    go (inl m) = absurd (omega (arith, h x, counted x l m, one))
    go (inr n) = n
