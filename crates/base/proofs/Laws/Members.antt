-- Membership of a list: the test of numbers when the list grows, and `List.Memᴰ`, for elements of any type.
use mathlib.Core.Path.{◌≡◌, refl, sym, ap, ◌∙◌}
use mathlib.Core.Bool.{Bool, true, false, ◌||◌, or_assoc, or_comm, or-false}
use mathlib.Core.List.Memᴰ
use mathlib.Core.List.{List, [], ◌∷◌, ◌++◌, Memᴰ}
use mathlib.Core.Logic.{◌⊎◌, inl, inr, ⊎_elim}
use Prim.Native.Nat.{ℕ, zero, suc, ◌<◌}
use native.Mathlib.Omega.{arith}
use lib.Dec.{eqb}
use lib.ListN.{length, get_or}
use borrow.Author.Tests.{eqb-true, eq-eqb}
use Rattle.base.proofs.Laws.Truth.{bool_cases, not-both, and_left, and_right, or_left, or_right, or_cases}
use Rattle.base.specs.Lists.{all, filter, elem}

-- ---- the test

pub elem-append : (n : ℕ) (k l : List ℕ) → elem n (k ++ l) ≡ (elem n k || elem n l)
elem-append n [] l = refl
elem-append n (x ∷ k) l = rw (elem-append n k l) (sym (or_assoc (eqb n x) (elem n k) (elem n l)))

pub elem-snoc : (n x : ℕ) (l : List ℕ) → elem n (l ++ (x ∷ [])) ≡ (eqb n x || elem n l)
elem-snoc n x l = elem-append n l (x ∷ []) ∙ rw (or-false (eqb n x)) (or_comm (elem n l) (eqb n x))

pub elem_mem : (n : ℕ) (l : List ℕ) → elem n l ≡ true → Memᴰ n l
elem_mem n [] h = absurd (not-both h refl)
elem_mem n (x ∷ l) h =
    ⊎_elim (λ (q : eqb n x ≡ true). Memᴰ.head (eqb-true n x q))
    (λ (m : elem n l ≡ true). Memᴰ.tail (elem_mem n l m)) (or_cases _ _ h)

pub mem_elem : {n : ℕ} (l : List ℕ) → Memᴰ n l → elem n l ≡ true
mem_elem [] m = absurd (Memᴰ.not-nil m)
mem_elem {n} (x ∷ l) m =
    ⊎_elim (λ (q : n ≡ x). or_left _ _ (eq-eqb n x q))
    (λ (t : Memᴰ n l). or_right (eqb n x) _ (mem_elem l t)) (Memᴰ.cases_cons m)

module _ {A : Type 0} where
  -- ---- what a filter keeps: the elements that pass its test

  pub mem_filter : {a : A} (f : A → Bool) (l : List A) → Memᴰ a l → f a ≡ true → Memᴰ a (filter f l)
  mem_filter f [] m p = absurd (Memᴰ.not-nil m)
  mem_filter {a} f (b ∷ l) m p = go (bool_cases (f b)) (Memᴰ.cases_cons m) (λ t. mem_filter f l t p)
    where
      go : (f b ≡ true) ⊎ (f b ≡ false) → (a ≡ b) ⊎ Memᴰ a l → (Memᴰ a l → Memᴰ a (filter f l))
          → Memᴰ a (filter f (b ∷ l))
      go (inl q) (inl e) ih = rw q (Memᴰ.head e)
      go (inl q) (inr t) ih = rw q (Memᴰ.tail (ih t))
      go (inr q) (inl e) ih = absurd (not-both p (ap f e ∙ q))
      go (inr q) (inr t) ih = rw q (ih t)

  pub filter_mem : {a : A} (f : A → Bool) (l : List A) → Memᴰ a (filter f l) → Memᴰ a l × (f a ≡ true)
  filter_mem f [] m = absurd (Memᴰ.not-nil m)
  filter_mem {a} f (b ∷ l) m = go (bool_cases (f b)) (λ t. filter_mem f l t)
    where
      go : (f b ≡ true) ⊎ (f b ≡ false) → (Memᴰ a (filter f l) → Memᴰ a l × (f a ≡ true)) → Memᴰ a (b ∷ l) × (f a ≡ true)
      go (inl q) ih =
          ⊎_elim (λ (e : a ≡ b). (Memᴰ.head e, ap f e ∙ q)) (λ (t : Memᴰ a (filter f l)). (Memᴰ.tail (ih t).0, (ih t).1))
          (Memᴰ.cases_cons (rw q at m))
      go (inr q) ih = let r = ih (rw q at m) in (Memᴰ.tail r.0, r.1)

  -- ---- a test that all pass, said of each

  pub all_mem : {a : A} (f : A → Bool) (l : List A) → all f l ≡ true → Memᴰ a l → f a ≡ true
  all_mem f [] h m = absurd (Memᴰ.not-nil m)
  all_mem {a} f (b ∷ l) h m =
      ⊎_elim (λ (e : a ≡ b). ap f e ∙ and_left _ _ h) (λ (t : Memᴰ a l). all_mem f l (and_right (f b) _ h) t) (Memᴰ.cases_cons m)

  -- ---- the elements and their places

  pub all_get_d : (f : A → Bool) (l : List A) (d : A) → all f l ≡ true → f d ≡ true → (k : ℕ) → f (get_or l k d) ≡ true
  all_get_d f [] d h p k = p
  all_get_d f (x ∷ l) d h p zero = and_left (f x) (all f l) h
  all_get_d f (x ∷ l) d h p (suc k) = all_get_d f l d (and_right (f x) (all f l) h) p k

  pub get_d_mem : (l : List A) (j : ℕ) (d : A) → j < length l → Memᴰ (get_or l j d) l
  get_d_mem [] j d h = absurd (omega arith)
  get_d_mem (a ∷ l) zero d h = Memᴰ.head refl
  get_d_mem (a ∷ l) (suc j) d h = Memᴰ.tail (get_d_mem l j d (omega arith))

  pub mem_get_d : {a : A} (l : List A) (d : A) → Memᴰ a l → (j : ℕ) × (j < length l) × (get_or l j d ≡ a)
  mem_get_d [] d m = absurd (Memᴰ.not-nil m)
  mem_get_d {a} (b ∷ l) d m = go (Memᴰ.cases_cons m) (λ t. mem_get_d l d t)
    where
      go : (a ≡ b) ⊎ Memᴰ a l → (Memᴰ a l → (j : ℕ) × (j < length l) × (get_or l j d ≡ a))
          → (j : ℕ) × (j < suc (length l)) × (get_or (b ∷ l) j d ≡ a)
      go (inl e) ih = (0, omega arith, sym e)
      go (inr t) ih = let r = ih t in (suc r.0, omega (arith, r.1), r.2)
