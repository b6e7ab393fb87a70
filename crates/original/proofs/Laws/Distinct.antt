-- Laws of `Distinct`.
use mathlib.Core.Path.{◌≡◌, refl, sym, ap, ◌∙◌, subst}
use mathlib.Core.Bool.{true, false, not}
use mathlib.Core.List.Memᴰ
use mathlib.Core.List.{List, [], ◌∷◌, ◌++◌, Memᴰ}
use mathlib.Core.Logic.{◌⊎◌, inl, inr, ⊎_elim}
use Prim.Native.Nat.{ℕ}
use lib.Dec.{eqb}
use borrow.Author.Tests.{eqb-true, not-true}
use Rattle.base.proofs.Laws.Truth.{bool_cases, not-both, and_intro, and_left, and_right, or_left, or_right, or_cases, neither_left, neither_right}
use Rattle.base.specs.Lists.{elem, concat_map}
use Rattle.base.proofs.Laws.Members.{elem-append}
use Rattle.original.specs.Inner.Distinct.{distinct}

-- What is on the first list is not on the second.
abbrev pub Apart : List ℕ → List ℕ → Type 0
Apart k l = (x : ℕ) → elem x k ≡ true → elem x l ≡ false

-- What is on the first part is on the whole.
pub elem-left : (x : ℕ) (k l : List ℕ) → elem x k ≡ true → elem x (k ++ l) ≡ true
elem-left x k l h = elem-append x k l ∙ or_left (elem x k) (elem x l) h

-- And what is on the second part.
pub elem_right : (x : ℕ) (k l : List ℕ) → elem x l ≡ true → elem x (k ++ l) ≡ true
elem_right x k l h = elem-append x k l ∙ or_right (elem x k) (elem x l) h

-- Where one test implies another, the other's failure is its own.
pub not-elem : (x : ℕ) (k l : List ℕ) → (elem x k ≡ true → elem x l ≡ true) → elem x l ≡ false → elem x k ≡ false
not-elem x k l h n = ⊎_elim (λ (m : elem x k ≡ true). absurd (not-both (h m) n)) (λ (m : elem x k ≡ false). m) (bool_cases (elem x k))

-- Apart goes both ways.
pub apart_sym : (k l : List ℕ) → Apart k l → Apart l k
apart_sym k l h x m = ⊎_elim (λ (n : elem x k ≡ true). absurd (not-both m (h x n))) (λ (n : elem x k ≡ false). n) (bool_cases (elem x k))

-- ---- the parts of a list

-- The first part of such a list is one.
pub distinct-left : (k l : List ℕ) → distinct (k ++ l) ≡ true → distinct k ≡ true
distinct-left [] l h = refl
distinct-left (x ∷ k) l h =
    let n : elem x (k ++ l) ≡ false = not-true _ (and_left (not (elem x (k ++ l))) _ h) in
    let m : elem x k ≡ false = neither_left (elem x k) (elem x l) (sym (elem-append x k l) ∙ n) in
    and_intro (not (elem x k)) (distinct k) (ap not m) (distinct-left k l (and_right (not (elem x (k ++ l))) _ h))

-- And the second.
pub distinct_right : (k l : List ℕ) → distinct (k ++ l) ≡ true → distinct l ≡ true
distinct_right [] l h = h
distinct_right (x ∷ k) l h = distinct_right k l (and_right (not (elem x (k ++ l))) _ h)

-- The two parts are apart.
pub distinct_apart : (k l : List ℕ) → distinct (k ++ l) ≡ true → Apart k l
distinct_apart [] l h x m = absurd (not-both m refl)
distinct_apart (y ∷ k) l h x m =
    let n : elem y (k ++ l) ≡ false = not-true _ (and_left (not (elem y (k ++ l))) _ h) in
    ⊎_elim
    (λ (e : eqb x y ≡ true).
    neither_right (elem x k) (elem x l) (sym (elem-append x k l) ∙ ap (λ (z : ℕ). elem z (k ++ l)) (eqb-true x y e) ∙ n))
    (λ (e : elem x k ≡ true). distinct_apart k l (and_right (not (elem y (k ++ l))) _ h) x e) (or_cases (eqb x y) (elem x k) m)

-- ---- lists put together

module _ {A : Type 0} (f : A → List ℕ) where
  -- What a member gives is on the whole.
  pub elem-concat_map : (l : List A) (a : A) → Memᴰ a l → (x : ℕ) → elem x (f a) ≡ true → elem x (concat_map f l) ≡ true
  elem-concat_map [] a m x h = absurd (Memᴰ.not-nil m)
  elem-concat_map (b ∷ l) a m x h =
      ⊎_elim (λ (e : a ≡ b). elem-left x (f b) (concat_map f l) (subst (λ (c : A). elem x (f c) ≡ true) e h))
      (λ (t : Memᴰ a l). elem_right x (f b) (concat_map f l) (elem-concat_map l a t x h)) (Memᴰ.cases_cons m)

  -- What a member gives is such a list.
  pub distinct-part : (l : List A) → distinct (concat_map f l) ≡ true → (a : A) → Memᴰ a l → distinct (f a) ≡ true
  distinct-part [] h a m = absurd (Memᴰ.not-nil m)
  distinct-part (b ∷ l) h a m =
      ⊎_elim (λ (e : a ≡ b). subst (λ (c : A). distinct (f c) ≡ true) (sym e) (distinct-left (f b) (concat_map f l) h))
      (λ (t : Memᴰ a l). distinct-part l (distinct_right (f b) (concat_map f l) h) a t) (Memᴰ.cases_cons m)

  -- Two members are one, or what they give is apart.
  pub one_or_apart : (l : List A) → distinct (concat_map f l) ≡ true → (a b : A) → Memᴰ a l → Memᴰ b l → (a ≡ b) ⊎ Apart (f a) (f b)
  one_or_apart [] h a b m n = absurd (Memᴰ.not-nil m)
  one_or_apart (c ∷ l) h a b m n = go (Memᴰ.cases_cons m) (Memᴰ.cases_cons n) (one_or_apart l (distinct_right (f c) (concat_map f l) h) a b)
    where
      front : (d : A) → Memᴰ d l → Apart (f c) (f d)
      front d t x p = not-elem x (f d) (concat_map f l) (elem-concat_map l d t x) (distinct_apart (f c) (concat_map f l) h x p)

      go : (a ≡ c) ⊎ Memᴰ a l → (b ≡ c) ⊎ Memᴰ b l → (Memᴰ a l → Memᴰ b l → (a ≡ b) ⊎ Apart (f a) (f b))
          → (a ≡ b) ⊎ Apart (f a) (f b)
      go (inl p) (inl q) ih = inl (p ∙ sym q)
      go (inl p) (inr t) ih = inr (subst (λ (d : A). Apart (f d) (f b)) (sym p) (front b t))
      go (inr t) (inl q) ih = inr (subst (λ (d : A). Apart (f a) (f d)) (sym q) (apart_sym (f c) (f a) (front a t)))
      go (inr t) (inr u) ih = ih t u
