-- Members of lists that are put together.
use mathlib.Core.Path.{◌≡◌, refl, ap₂, subst}
use mathlib.Core.List.Memᴰ
use mathlib.Core.List.{List, [], ◌∷◌, ◌++◌, Memᴰ}
use mathlib.Core.Logic.{⊎_elim}
use Rattle.base.specs.Lists.{concat_map}

module _ {A : Type 0} where
  -- Each member of the first list is one of the second.
  abbrev pub Among : List A → List A → Type 0
  Among k l = (a : A) → Memᴰ a k → Memᴰ a l

  -- The members of the first part.
  pub mem_left : (k l : List A) → Among k (k ++ l)
  mem_left [] l a m = absurd (Memᴰ.not-nil m)
  mem_left (x ∷ k) l a m =
      ⊎_elim (λ (e : a ≡ x). Memᴰ.head e) (λ (t : Memᴰ a k). Memᴰ.tail (mem_left k l a t)) (Memᴰ.cases_cons m)

  -- The members of the second part.
  pub mem_right : (k l : List A) → Among l (k ++ l)
  mem_right [] l a m = m
  mem_right (x ∷ k) l a m = Memᴰ.tail (mem_right k l a m)

  -- Both parts are within a list, so the whole is.
  pub within-append : (k l j : List A) → Among k j → Among l j → Among (k ++ l) j
  within-append k l j f g a m = ⊎_elim (λ (t : Memᴰ a k). f a t) (λ (t : Memᴰ a l). g a t) (Memᴰ.append_cases k m)

  -- An element moves from the front of the first to the front of the second.
  pub mem_move : (x : A) (k l : List A) → Among ((x ∷ k) ++ l) (k ++ (x ∷ l))
  mem_move x k l a m =
      ⊎_elim (λ (e : a ≡ x). mem_right k (x ∷ l) a (Memᴰ.head e))
      (λ (t : Memᴰ a (k ++ l)).
      within-append k l (k ++ (x ∷ l)) (mem_left k (x ∷ l)) (λ b u. mem_right k (x ∷ l) b (Memᴰ.tail u)) a t)
      (Memᴰ.cases_cons m)

module _ {A B : Type 0} where
  -- What a member gives is within the whole.
  pub mem_concat_map : (f : A → List B) (l : List A) (a : A) → Memᴰ a l → Among (f a) (concat_map f l)
  mem_concat_map f [] a m b n = absurd (Memᴰ.not-nil m)
  mem_concat_map f (x ∷ l) a m b n =
      ⊎_elim (λ (e : a ≡ x). mem_left (f x) (concat_map f l) b (subst (λ (y : A). Memᴰ b (f y)) e n))
      (λ (t : Memᴰ a l). mem_right (f x) (concat_map f l) b (mem_concat_map f l a t b n)) (Memᴰ.cases_cons m)

  -- Two functions that agree on the members give the same.
  pub concat_map_agree : (f g : A → List B) (l : List A) → ((a : A) → Memᴰ a l → f a ≡ g a) → concat_map f l ≡ concat_map g l
  concat_map_agree f g [] h = refl
  concat_map_agree f g (x ∷ l) h =
      ap₂ ◌++◌ (h x (Memᴰ.head refl)) (concat_map_agree f g l (λ a m. h a (Memᴰ.tail m)))
