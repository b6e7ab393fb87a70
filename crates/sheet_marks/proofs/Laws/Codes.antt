-- Laws of `Codes`.
use mathlib.Core.Path.{◌≡◌, refl, sym, ap, ◌∙◌}
use mathlib.Core.Bool.{Bool, true, false, cond, ◌&&◌, ◌||◌, or-false}
use mathlib.Core.List.{List, [], ◌∷◌, ◌++◌}
use Prim.Native.Nat.{ℕ, ◌+◌, ◌*◌, ◌/◌, ◌%◌}
use native.Mathlib.Omega.{arith}
use lib.Dec.{eqb}
use borrow.Author.Tests.{eq-eqb, ne_eqb}
use Rattle.sheet.specs.Naming.{Naming, upwards, named_so, in_chain}
use Rattle.sheet.proofs.Laws.Laws.{in_chain-append}
use Rattle.sheet_marks.specs.Inner.Codes.{once_of, code_of, next_code}

-- ---- what a mark says

pub once-some : (up chain : Bool) (p : ℕ) → eqb (once_of up chain p) 0 ≡ false
once-some true true p = ne_eqb (5 + 8 * p) 0 (λ (e : 5 + 8 * p ≡ 0). omega arith)
once-some true false p = ne_eqb (1 + 8 * p) 0 (λ (e : 1 + 8 * p ≡ 0). omega arith)
once-some false chain p = refl

pub once-member : (up chain : Bool) (p : ℕ) → eqb (once_of up chain p / 4 % 2) 1 ≡ (chain && up)
once-member true true p = eq-eqb ((5 + 8 * p) / 4 % 2) 1 (omega arith)
once-member true false p = ne_eqb ((1 + 8 * p) / 4 % 2) 1 (λ (e : (1 + 8 * p) / 4 % 2 ≡ 1). omega arith)
once-member false true p = refl
once-member false false p = refl

pub once_so : (up chain : Bool) (p : ℕ) → eqb (once_of up chain p % 4) 1 ≡ up
once_so true true p = eq-eqb ((5 + 8 * p) % 4) 1 (omega arith)
once_so true false p = eq-eqb ((1 + 8 * p) % 4) 1 (omega arith)
once_so false chain p = refl

pub many-member : (b : Bool) → eqb (cond b 6 2 / 4 % 2) 1 ≡ b
many-member true = refl
many-member false = refl

pub code-member : (k : ℕ) (xs : List Naming) → eqb (code_of k xs / 4 % 2) 1 ≡ in_chain k xs
unfolding in_chain
code-member k [] = refl
code-member k (x ∷ []) =
    once-member (upwards x.by k) x.chain x.place ∙ sym (or-false (x.chain && upwards x.by k))
code-member k (x ∷ y ∷ xs) = many-member (in_chain k (x ∷ y ∷ xs))

many_so : (b : Bool) → eqb (cond b 6 2 % 4) 1 ≡ false
many_so true = refl
many_so false = refl

pub code_so : (k : ℕ) (xs : List Naming) → eqb (code_of k xs % 4) 1 ≡ named_so k xs
code_so k [] = refl
code_so k (x ∷ []) = once_so (upwards x.by k) x.chain x.place
code_so k (x ∷ y ∷ xs) = many_so (in_chain k (x ∷ y ∷ xs))

-- ---- one naming more

chain-one : (k : ℕ) (x : Naming) → in_chain k (x ∷ []) ≡ (x.chain && upwards x.by k)
unfolding in_chain
chain-one k x = or-false (x.chain && upwards x.by k)

many-some : (b : Bool) → eqb (cond b 6 2) 0 ≡ false
many-some true = refl
many-some false = refl

pub code-snoc : (k : ℕ) (xs : List Naming) (x : Naming)
    → code_of k (xs ++ (x ∷ [])) ≡ next_code (code_of k xs) (upwards x.by k) x.chain x.place
unfolding next_code
code-snoc k [] x = refl
code-snoc k (y ∷ []) x =
    ap (λ (b : Bool). cond b 6 2)
    (in_chain-append k (y ∷ []) (x ∷ []) ∙ ap (λ (b : Bool). b || in_chain k (x ∷ [])) (chain-one k y)
    ∙ ap (λ (b : Bool). (y.chain && upwards y.by k) || b) (chain-one k x))
    ∙ sym (rw (once-some (upwards y.by k) y.chain y.place, once-member (upwards y.by k) y.chain y.place))
code-snoc k (y ∷ z ∷ ys) x =
    ap (λ (b : Bool). cond b 6 2)
    (in_chain-append k (y ∷ z ∷ ys) (x ∷ []) ∙ ap (λ (b : Bool). in_chain k (y ∷ z ∷ ys) || b) (chain-one k x))
    ∙ sym (rw (many-some (in_chain k (y ∷ z ∷ ys)), many-member (in_chain k (y ∷ z ∷ ys))))
