-- A test that all elements pass, of lists that are put together; and what `concat_map` and `find` give.
use mathlib.Core.Path.{◌≡◌, refl, ap, ◌∙◌}
use mathlib.Core.Bool.{Bool, true, false, cond}
use mathlib.Core.List.{List, [], ◌∷◌, ◌++◌, map, append_assoc, Memᴰ}
use mathlib.Core.Logic.{◌⊎◌, inl, inr}
use mathlib.Core.Option.{some}
use Prim.Native.Nat.{ℕ}
use native.Mathlib.Omega.{arith}
use Rattle.base.proofs.Laws.Truth.{bool_cases, and_intro, and_left, and_right}
use Rattle.base.specs.Lists.{all, filter, concat_map, find, last}
use Rattle.base.proofs.Laws.Mapping.{to_list}

module _ {A : Type 0} where
  pub all_append : (p : A → Bool) (k l : List A) → all p k ≡ true → all p l ≡ true → all p (k ++ l) ≡ true
  all_append p [] l h g = g
  all_append p (x ∷ k) l h g = and_intro (p x) (all p (k ++ l)) (and_left (p x) (all p k) h) (all_append p k l (and_right (p x) _ h) g)

  pub all_weaken : (p q : A → Bool) → ((x : A) → p x ≡ true → q x ≡ true) → (l : List A) → all p l ≡ true → all q l ≡ true
  all_weaken p q f [] h = refl
  all_weaken p q f (x ∷ l) h = and_intro _ _ (f x (and_left _ _ h)) (all_weaken p q f l (and_right (p x) _ h))

  -- A test that everything passes.
  pub all_always : (p : A → Bool) → ((x : A) → p x ≡ true) → (l : List A) → all p l ≡ true
  all_always p f [] = refl
  all_always p f (x ∷ l) = and_intro _ _ (f x) (all_always p f l)

  -- What a filter keeps passes its test, and each test that all passed before.
  pub all-kept : (p : A → Bool) (l : List A) → all p (filter p l) ≡ true
  all-kept p [] = refl
  all-kept p (x ∷ l) = go (bool_cases (p x)) (all-kept p l)
    where
      go : (p x ≡ true) ⊎ (p x ≡ false) → all p (filter p l) ≡ true → all p (filter p (x ∷ l)) ≡ true
      go (inl e) ih = rw e (and_intro _ _ e ih)
      go (inr e) ih = rw e ih

  pub all_filter : (p q : A → Bool) (l : List A) → all p l ≡ true → all p (filter q l) ≡ true
  all_filter p q [] h = refl
  all_filter p q (x ∷ l) h = go (q x) (all_filter p q l (and_right (p x) _ h))
    where
      go : (b : Bool) → all p (filter q l) ≡ true → all p (cond b (x ∷ filter q l) (filter q l)) ≡ true
      go true ih = and_intro (p x) (all p (filter q l)) (and_left (p x) (all p l) h) ih
      go false ih = ih

  pub all-last : (p : A → Bool) (l : List A) → all p l ≡ true → all p (to_list (last l)) ≡ true
  all-last p [] h = refl
  all-last p (x ∷ []) h = h
  all-last p (x ∷ (y ∷ l)) h = all-last p (y ∷ l) (and_right (p x) _ h)

module _ {A B : Type 0} (p : A → Bool) (q : B → Bool) where
  pub all_map : (f : B → A) → ((x : B) → q x ≡ true → p (f x) ≡ true) → (l : List B) → all q l ≡ true → all p (map f l) ≡ true
  all_map f h [] e = refl
  all_map f h (x ∷ l) e = and_intro _ _ (h x (and_left _ _ e)) (all_map f h l (and_right (q x) _ e))

  pub all-concat_map : (f : B → List A) → ((x : B) → q x ≡ true → all p (f x) ≡ true) → (l : List B) → all q l ≡ true
      → all p (concat_map f l) ≡ true
  all-concat_map f h [] e = refl
  all-concat_map f h (x ∷ l) e = all_append p (f x) _ (h x (and_left _ _ e)) (all-concat_map f h l (and_right (q x) _ e))

module _ {A B : Type 0} where
  pub concat_map-append : (f : A → List B) (k l : List A) → concat_map f (k ++ l) ≡ concat_map f k ++ concat_map f l
  concat_map-append f [] l = refl
  concat_map-append f (x ∷ k) l = rw (concat_map-append f k l, append_assoc (f x) (concat_map f k) (concat_map f l))

  -- What is collected of what is collected.
  pub concat_map-nested : {C : Type 0} (f : A → List B) (g : C → List A) (l : List C) → concat_map f (concat_map g l) ≡ concat_map (λ x. concat_map f (g x)) l
  concat_map-nested f g [] = refl
  concat_map-nested f g (x ∷ l) =
      concat_map-append f (g x) (concat_map g l) ∙ ap (λ (m : List B). concat_map f (g x) ++ m) (concat_map-nested f g l)

module _ {A : Type 0} where
  -- What is found is on the list, and passes the test.
  pub find-some : {a : A} (p : A → Bool) (l : List A) → find p l ≡ some a → Memᴰ a l × (p a ≡ true)
  find-some p [] e = let z : ◌≡◌ {A = ℕ} 0 1 = cc in absurd (omega arith)
  find-some {a} p (x ∷ l) e = go (bool_cases (p x)) (λ q. find-some p l q)
    where
      go : (p x ≡ true) ⊎ (p x ≡ false) → (find p l ≡ some a → Memᴰ a l × (p a ≡ true))
          → Memᴰ a (x ∷ l) × (p a ≡ true)
      go (inl q) rest =
          let r : some x ≡ some a = rw q at e in
          let s : a ≡ x = cc in
          (Memᴰ.head s, ap p s ∙ q)
      go (inr q) rest = let r = rest (rw q at e) in (Memᴰ.tail r.0, r.1)

-- A test that all pass of what is collected, where nothing is known of the elements.
pub concat_map_always : {A B : Type 0} (p : A → Bool) (f : B → List A) → ((x : B) → all p (f x) ≡ true) → (l : List B)
    → all p (concat_map f l) ≡ true
concat_map_always p f h l = all-concat_map p (λ x. true) f (λ x e. h x) l (all_always (λ x. true) (λ x. refl) l)
