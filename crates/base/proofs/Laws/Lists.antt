-- Laws of `Lists`.
use mathlib.Core.Path.{◌≡◌, refl, sym, ap, ◌∙◌}
use mathlib.Core.Bool.{Bool, true, false, cond, ◌&&◌, and-false}
use mathlib.Core.List.{List, [], ◌∷◌, ◌++◌}
use mathlib.Core.Logic.{◌⊎◌, inl, inr, ⊎_elim}
use Prim.Native.Nat.{ℕ}
use lib.Dec.{ltb, eqb}
use borrow.Author.Tests.{eqb-true, eq-eqb}
use Rattle.base.proofs.Laws.Truth.{bool_cases, not-both, and_intro, and_left, and_right, or_left, or_right, or_cases}
use Rattle.base.specs.Lists.{all, elem, filter}

-- Is each element less than all that follow it?
abbrev pub ascending : List ℕ → Bool
ascending [] = true
ascending (x ∷ l) = all (ltb x) l && ascending l

-- ---- a test that all pass, said of each

module _ (f : ℕ → Bool) where
  pub all-elem : (l : List ℕ) → all f l ≡ true → (n : ℕ) → elem n l ≡ true → f n ≡ true
  all-elem [] h n m = absurd (not-both m refl)
  all-elem (x ∷ l) h n m =
      ⊎_elim (λ (e : eqb n x ≡ true). ap f (eqb-true n x e) ∙ and_left _ _ h) (all-elem l (and_right (f x) _ h) n) (or_cases _ _ m)

  pub elem-all : (l : List ℕ) → ((n : ℕ) → elem n l ≡ true → f n ≡ true) → all f l ≡ true
  elem-all [] h = refl
  elem-all (x ∷ l) h =
      and_intro _ _ (h x (or_left _ _ (eq-eqb x x refl))) (elem-all l (λ n m. h n (or_right (eqb n x) _ m)))

-- ---- what a filter keeps

pub elem-filter : (f : ℕ → Bool) (n : ℕ) (l : List ℕ) → elem n (filter f l) ≡ (f n && elem n l)
elem-filter f n [] = sym (and-false (f n))
elem-filter f n (x ∷ l) = go (bool_cases (f x)) (bool_cases (eqb n x)) (elem-filter f n l)
  where
    go : (f x ≡ true) ⊎ (f x ≡ false) → (eqb n x ≡ true) ⊎ (eqb n x ≡ false)
        → elem n (filter f l) ≡ (f n && elem n l) → elem n (filter f (x ∷ l)) ≡ (f n && elem n (x ∷ l))
    go (inl p) (inl q) ih = rw (p, q, ap f (eqb-true n x q) ∙ p)
    go (inl p) (inr q) ih = rw (p, q) ih
    go (inr p) (inl q) ih = rw (p, q, ih, ap f (eqb-true n x q) ∙ p)
    go (inr p) (inr q) ih = rw (p, q) ih

module _ {A : Type 0} where
  pub filter-append : (f : A → Bool) (k l : List A) → filter f (k ++ l) ≡ filter f k ++ filter f l
  filter-append f [] l = refl
  filter-append f (x ∷ k) l = go (f x) (filter-append f k l)
    where
      go : (b : Bool) → filter f (k ++ l) ≡ filter f k ++ filter f l
          → cond b (x ∷ filter f (k ++ l)) (filter f (k ++ l)) ≡ cond b (x ∷ filter f k) (filter f k) ++ filter f l
      go true ih = ap (λ (m : List A). x ∷ m) ih
      go false ih = ih

  -- By tests that answer the same.
  pub filter_same : (f g : A → Bool) → ((x : A) → f x ≡ g x) → (l : List A) → filter f l ≡ filter g l
  filter_same f g h [] = refl
  filter_same f g h (x ∷ l) = rw (h x, filter_same f g h l)
