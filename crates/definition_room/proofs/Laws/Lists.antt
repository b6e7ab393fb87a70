-- The lengths of lists that are filtered, mapped and put together.
use mathlib.Core.Path.{◌≡◌, refl, ap}
use mathlib.Core.Bool.{Bool, true, false, cond}
use mathlib.Core.List.{List, [], ◌∷◌, ◌++◌, map}
use mathlib.Core.Option.{some}
use Prim.Native.Nat.{ℕ, suc, ◌+◌, ◌≤◌}
use native.Mathlib.Omega.{arith}
use lib.ListN.{length, length-append}
use Rattle.base.proofs.Laws.Truth.{and_intro}
use Rattle.base.specs.Lists.{all, filter, concat_map, last}
use Rattle.sheet.specs.declared.Row.{Row}
use Rattle.scope.specs.Traverse.{children_of, entered}
use Rattle.scope.proofs.Laws.Children.{of_children}
use Rattle.definition_room.specs.Inner.Sizes.{total}

module _ {A : Type 0} where
  -- A filter leaves no more than there is.
  pub length-filter : (p : A → Bool) (l : List A) → length (filter p l) ≤ length l
  length-filter p [] = omega arith
  length-filter p (x ∷ l) = go (p x) (length-filter p l)
    where
      go : (b : Bool) → length (filter p l) ≤ length l → length (cond b (x ∷ filter p l) (filter p l)) ≤ suc (length l)
      go true h = omega arith
      go false h = omega arith

module _ {A B : Type 0} where
  -- A test that everything passes that f makes.
  pub map_always : (p : B → Bool) (f : A → B) → ((x : A) → p (f x) ≡ true) → (l : List A) → all p (map f l) ≡ true
  map_always p f h [] = refl
  map_always p f h (x ∷ l) = and_intro (p (f x)) (all p (map f l)) (h x) (map_always p f h l)

  -- The lengths of what is put together add up.
  pub length-concat_map : (f : A → List B) (l : List A) → length (concat_map f l) ≡ total (λ x. length (f x)) l
  length-concat_map f [] = refl
  length-concat_map f (x ∷ l) = rw (length-append (f x) (concat_map f l), length-concat_map f l)

module _ {A : Type 0} where
  -- Sums over lists.
  pub total-append : (f : A → ℕ) (k l : List A) → total f (k ++ l) ≡ total f k + total f l
  total-append f [] l = omega arith
  total-append f (x ∷ k) l = omega (arith, total-append f k l)

  -- What is entered is in the three fields.
  pub total-entered : (f : A → ℕ) (w : Row) (a b c : List A) → total f (entered (children_of w) a b c) ≤ total f a + (total f b + total f c)
  total-entered f w a b c =
      of_children (λ ks. total f (entered ks a b c) ≤ total f a + (total f b + total f c)) (omega arith)
      (omega (arith, total-append f a [])) (omega (arith, total-append f b []))
      (omega (arith, total-append f a (b ++ []), total-append f b []))
      (omega (arith, total-append f a (b ++ (c ++ [])), total-append f b (c ++ []), total-append f c []))
      w.kind

  pub total_mono : (f g : A → ℕ) → ((x : A) → f x ≤ g x) → (l : List A) → total f l ≤ total g l
  total_mono f g h [] = omega arith
  total_mono f g h (x ∷ l) = omega (arith, h x, total_mono f g h l)

  pub total-filter : (f : A → ℕ) (p : A → Bool) (l : List A) → total f (filter p l) ≤ total f l
  total-filter f p [] = omega arith
  total-filter f p (x ∷ l) = go (p x) (total-filter f p l)
    where
      go : (b : Bool) → total f (filter p l) ≤ total f l → total f (cond b (x ∷ filter p l) (filter p l)) ≤ f x + total f l
      go true h = omega arith
      go false h = omega arith

  -- The last element is one of those that are summed up.
  pub total-last : (f : A → ℕ) (l : List A) (x : A) → last l ≡ some x → f x ≤ total f l
  total-last f [] x e = let z : ◌≡◌ {A = ℕ} 0 1 = cc in omega arith
  total-last f (y ∷ []) x e = let q : y ≡ x = cc in omega (arith, ap f q)
  total-last f (y ∷ (z ∷ l)) x e = omega (arith, total-last f (z ∷ l) x e)
