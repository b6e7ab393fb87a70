-- Laws of `concat_map`, `any` and `find`, and of what a walk enters.
use mathlib.Core.Path.{◌≡◌, refl, sym, ap, ap₂, ◌∙◌}
use mathlib.Core.Bool.{Bool, true, false, cond, ◌||◌, or_assoc}
use mathlib.Core.List.{List, [], ◌∷◌, ◌++◌}
use mathlib.Core.Option.{Option, none, some}
use Prim.Native.Nat.{ℕ}
use lib.Dec.{eqb}
use Rattle.base.proofs.Laws.Truth.{or_left_comm}
use Rattle.base.specs.Lists.{elem, concat_map, any, find}
use Rattle.scope.specs.Traverse.{Child, first_field, second_field, third_field, child_of, entered}
use Rattle.base.proofs.Laws.ListLaws.{concat_map-append}

-- Over what is entered.
pub concat_map-entered : {A B : Type 0} (f : A → List B) (ks : List Child) (a b c : List A)
    → concat_map f (entered ks a b c) ≡ entered ks (concat_map f a) (concat_map f b) (concat_map f c)
concat_map-entered f [] a b c = refl
concat_map-entered {B = B} f (k ∷ ks) a b c =
    concat_map-append f (child_of k a b c) (entered ks a b c) ∙ ap₂ ◌++◌ (child k) (concat_map-entered f ks a b c)
  where
    child : (j : Child) → concat_map f (child_of j a b c) ≡ child_of j (concat_map f a) (concat_map f b) (concat_map f c)
    child first_field = refl
    child second_field = refl
    child third_field = refl

-- A test over two lists.
pub any_append : {A : Type 0} (p : A → Bool) (k l : List A) → any p (k ++ l) ≡ (any p k || any p l)
any_append p [] l = refl
any_append p (x ∷ k) l = ap (λ (b : Bool). p x || b) (any_append p k l) ∙ sym (or_assoc (p x) (any p k) (any p l))

-- Of three parts the first two change places.
pub any_swap : {A : Type 0} (p : A → Bool) (a b c : List A) → any p (a ++ (b ++ c)) ≡ any p (b ++ (a ++ c))
any_swap p a b c =
    any_append p a (b ++ c) ∙ ap (λ (x : Bool). any p a || x) (any_append p b c) ∙ or_left_comm (any p a) (any p b) (any p c)
    ∙ sym (any_append p b (a ++ c) ∙ ap (λ (x : Bool). any p b || x) (any_append p a c))

-- A test over what is entered.
pub any-entered : {A : Type 0} (p : A → Bool) (ks : List Child) (a b c d e f : List A) → any p a ≡ any p d → any p b ≡ any p e → any p c ≡ any p f
    → any p (entered ks a b c) ≡ any p (entered ks d e f)
any-entered p [] a b c d e f x y z = refl
any-entered p (k ∷ ks) a b c d e f x y z =
    any_append p (child_of k a b c) (entered ks a b c) ∙ cc (child k, any-entered p ks a b c d e f x y z)
    ∙ sym (any_append p (child_of k d e f) (entered ks d e f))
  where
    child : (j : Child) → any p (child_of j a b c) ≡ any p (child_of j d e f)
    child first_field = x
    child second_field = y
    child third_field = z

-- Membership is such a test.
pub elem-any : (n : ℕ) (l : List ℕ) → elem n l ≡ any (eqb n) l
elem-any n [] = refl
elem-any n (x ∷ l) = ap (λ (b : Bool). eqb n x || b) (elem-any n l)

-- ---- the first that passes a test

module _ {A : Type 0} where
  -- The first value, or else the second.
  abbrev pub or_else : Option A → Option A → Option A
  or_else none o = o
  or_else (some x) o = some x

  -- Nothing else.
  pub or_else-none : (o : Option A) → or_else o none ≡ o
  or_else-none none = refl
  or_else-none (some x) = refl

  -- The first value twice is the first value once.
  pub or_else_twice : (o r : Option A) → or_else o (or_else o r) ≡ or_else o r
  or_else_twice none r = refl
  or_else_twice (some x) r = refl

  -- The first of two lists is that of the first list, or else of the second.
  pub find-append : (p : A → Bool) (k l : List A) → find p (k ++ l) ≡ or_else (find p k) (find p l)
  find-append p [] l = refl
  find-append p (x ∷ k) l = go (p x) (find-append p k l)
    where
      go : (b : Bool) → find p (k ++ l) ≡ or_else (find p k) (find p l)
          → cond b (some x) (find p (k ++ l)) ≡ or_else (cond b (some x) (find p k)) (find p l)
      go true h = refl
      go false h = h
