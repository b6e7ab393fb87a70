-- Laws of `Ranges`.
use mathlib.Core.Path.{◌≡◌, refl, ap, ap₂, ◌∙◌}
use mathlib.Core.Bool.{Bool, true, false, cond}
use mathlib.Core.List.{List, [], ◌∷◌, ◌++◌, map, append-nil}
use Prim.Native.Nat.{ℕ, zero, suc, ◌+◌, ◌-◌, ◌≤◌, ◌<◌}
use native.Mathlib.Omega.{arith}
use Rattle.base.specs.Lists.{filter, counted, range, concat_map}
use Rattle.base.proofs.Laws.Ranges.{range-nil, counted-snoc}
use Rattle.base.proofs.Laws.ListLaws.{concat_map-append}
use Rattle.answer_text.specs.Inner.Ranges.{texts}

-- ---- lists

module _ {A B : Type 0} (f : A → List B) where
  pub concat-map : {C : Type 0} (g : C → A) (l : List C) → concat_map f (map g l) ≡ concat_map (λ x. f (g x)) l
  concat-map g [] = refl
  concat-map g (x ∷ l) = ap (λ (m : List B). f (g x) ++ m) (concat-map g l)

  pub concat-filter : (p : A → Bool) (l : List A) → concat_map f (filter p l) ≡ concat_map (λ x. cond (p x) (f x) []) l
  concat-filter p [] = refl
  concat-filter p (x ∷ l) = go (p x) (concat-filter p l)
    where
      go : (b : Bool) → concat_map f (filter p l) ≡ concat_map (λ x. cond (p x) (f x) []) l
          → concat_map f (cond b (x ∷ filter p l) (filter p l)) ≡ cond b (f x) [] ++ concat_map (λ x. cond (p x) (f x) []) l
      go true ih = ap (λ (m : List B). f x ++ m) ih
      go false ih = ih

-- ---- ranges

range_last : (a e : ℕ) → a ≤ e → range a (e + 1) ≡ range a e ++ (e ∷ [])
unfolding range
range_last a e h =
    let m : (e + 1) - a ≡ suc (e - a) = omega arith in
    let n : a + (e - a) ≡ e = omega arith in
    ap (counted a) m ∙ counted-snoc a (e - a) ∙ ap (λ (k : ℕ). counted a (e - a) ++ (k ∷ [])) n

module _ (f : ℕ → List ℕ) where
  pub texts-none : (a : ℕ) → texts f a a ≡ []
  unfolding texts
  texts-none a = ap (concat_map f) (range-nil a a (omega arith))

  pub texts-last : (a e : ℕ) → a ≤ e → texts f a (e + 1) ≡ texts f a e ++ f e
  unfolding texts
  texts-last a e h =
      ap (concat_map f) (range_last a e h) ∙ concat_map-append f (range a e) (e ∷ []) ∙ ap (λ (m : List ℕ). concat_map f (range a e) ++ m) (append-nil (f e))

  -- Numbers at which nothing is given.
  pub texts_skip : (a b e : ℕ) → a ≤ b → b ≤ e → ((n : ℕ) → b ≤ n → n < e → f n ≡ []) → texts f a e ≡ texts f a b
  texts_skip a b e l u none = go (e - b) e (omega arith) (omega arith)
    where
      go : (c x : ℕ) → x ≡ b + c → x ≤ e → texts f a x ≡ texts f a b
      go zero x s m = let q : x ≡ b = omega arith in ap (texts f a) q
      go (suc c) x s m =
          let q : x ≡ (b + c) + 1 = omega arith in
          ap (texts f a) q ∙ texts-last a (b + c) (omega arith)
          ∙ ap (λ (t : List ℕ). texts f a (b + c) ++ t) (none (b + c) (omega arith) (omega arith))
          ∙ append-nil (texts f a (b + c)) ∙ go c (b + c) (omega arith) (omega arith)

pub texts-same : (f g : ℕ → List ℕ) (a e : ℕ) → ((n : ℕ) → a ≤ n → n < e → f n ≡ g n) → texts f a e ≡ texts g a e
unfolding texts range
texts-same f g a e same = go (e - a) a (λ n l u. same n l (omega arith))
  where
    go : (c b : ℕ) → ((n : ℕ) → b ≤ n → n < b + c → f n ≡ g n) → concat_map f (counted b c) ≡ concat_map g (counted b c)
    go zero b s = refl
    go (suc c) b s =
        ap₂ (λ (k l : List ℕ). k ++ l) (s b (omega arith) (omega arith)) (go c (suc b) (λ n l u. s n (omega arith) (omega arith)))
