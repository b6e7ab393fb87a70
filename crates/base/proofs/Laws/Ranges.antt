-- Laws of `Ranges`.
use mathlib.Core.Path.{◌≡◌, refl, sym, ap, ◌∙◌}
use mathlib.Core.Bool.{Bool, true, false}
use mathlib.Core.List.{List, [], ◌∷◌, ◌++◌, map}
use mathlib.Core.Logic.{⊎_elim}
use Prim.Native.Nat.{ℕ, zero, suc, ◌+◌, ◌-◌, ◌≤◌, ◌<◌}
use native.Mathlib.Numerals.{add-one}
use native.Mathlib.Omega.{arith}
use lib.Dec.{ltb, eqb}
use lib.ListN.{length, get_or}
use borrow.Author.Tests.{eqb-false, lt-ltb}
use Rattle.base.proofs.Laws.Truth.{bool_cases, and_intro, or_left, or_right}
use Rattle.base.specs.Lists.{all, filter, elem, counted, range}
use Rattle.base.proofs.Laws.Lists.{ascending}

pub length-counted : (a c : ℕ) → length (counted a c) ≡ c
length-counted a zero = refl
length-counted a (suc c) = ap suc (length-counted (suc a) c)

pub counted-snoc : (a c : ℕ) → counted a (suc c) ≡ counted a c ++ ((a + c) ∷ [])
counted-snoc a zero = let e : a ≡ a + 0 = omega arith in ap (λ (x : ℕ). x ∷ []) e
counted-snoc a (suc c) =
    let e : suc a + c ≡ a + suc c = omega arith in
    ap (λ (t : List ℕ). a ∷ t) (counted-snoc (suc a) c ∙ ap (λ (x : ℕ). counted (suc a) c ++ (x ∷ [])) e)

-- What a function gives at them.
pub counted-at : {A : Type 0} (f : ℕ → A) (c a i : ℕ) (d : A) → i < c → get_or (map f (counted a c)) i d ≡ f (a + i)
counted-at f zero a i d h = absurd (omega arith)
counted-at f (suc c) a zero d h = ap f (omega arith)
counted-at f (suc c) a (suc i) d h = counted-at f c (suc a) i d (omega arith) ∙ ap f (omega arith)

pub range-nil : (a e : ℕ) → e ≤ a → range a e ≡ []
unfolding range
range-nil a e h = let z : e - a ≡ 0 = omega arith in ap (counted a) z

pub range_cons : (a e : ℕ) → a < e → range a e ≡ a ∷ range (a + 1) e
unfolding range
range_cons a e h =
    let c : e - a ≡ suc (e - (a + 1)) = omega arith in
    ap (counted a) c ∙ ap (λ (b : ℕ). a ∷ counted b (e - (a + 1))) (sym (add-one a))

pub elem-range : (n a e : ℕ) → a ≤ n → n < e → elem n (range a e) ≡ true
unfolding range
elem-range n a e h l = go (e - a) a h (omega arith)
  where
    go : (c a : ℕ) → a ≤ n → n < a + c → elem n (counted a c) ≡ true
    go zero a h l = absurd (omega arith)
    go (suc c) a h l =
        ⊎_elim (λ (q : eqb n a ≡ true). or_left _ _ q)
        (λ (q : eqb n a ≡ false). let ne = eqb-false n a q in or_right (eqb n a) _ (go c (suc a) (omega arith) (omega arith)))
        (bool_cases (eqb n a))

pub range-ascending : (a e : ℕ) → ascending (range a e) ≡ true
unfolding range
range-ascending a e = go (e - a) a
  where
    above : (c x a : ℕ) → x < a → all (ltb x) (counted a c) ≡ true
    above zero x a h = refl
    above (suc c) x a h = and_intro _ _ (lt-ltb x a h) (above c x (suc a) (omega arith))

    go : (c a : ℕ) → ascending (counted a c) ≡ true
    go zero a = refl
    go (suc c) a = and_intro _ _ (above c a (suc a) (omega arith)) (go c (suc a))

-- A filter passes over numbers that fail its test.
pub filter_skip : (f : ℕ → Bool) (a b e : ℕ) → a ≤ b → b ≤ e → ((n : ℕ) → a ≤ n → n < b → f n ≡ false)
    → filter f (range a e) ≡ filter f (range b e)
filter_skip f a b e l u fails = go (b - a) a (omega arith) (omega arith)
  where
    go : (c x : ℕ) → a ≤ x → x + c ≡ b → filter f (range x e) ≡ filter f (range b e)
    go zero x h s = let q : x ≡ b = omega arith in ap (λ (y : ℕ). filter f (range y e)) q
    go (suc c) x h s = rw (range_cons x e (omega arith), fails x h (omega arith)) (go c (x + 1) (omega arith) (omega arith))

pub elem-counted : (n a c : ℕ) → a ≤ n → n < a + c → elem n (counted a c) ≡ true
unfolding range
elem-counted n a c h l =
    let e : (a + c) - a ≡ c = omega arith in
    ap (λ (k : ℕ). elem n (counted a k)) (sym e) ∙ elem-range n a (a + c) h l

-- A filter whose test no number below n passes leaves none of them.
pub filter_none : (f : ℕ → Bool) (n : ℕ) → ((i : ℕ) → i < n → f i ≡ false) → filter f (range 0 n) ≡ []
filter_none f n fails =
    filter_skip f 0 n n (omega arith) (omega arith) (λ i l h. fails i h) ∙ ap (filter f) (range-nil n n (omega arith))
