-- A buffer whose front holds zeros, or the numbers from 0 up: one more at a time.
use mathlib.Core.Path.{◌≡◌, sym, ap, ◌∙◌}
use mathlib.Core.List.{List, [], ◌∷◌, ◌++◌, append_assoc}
use Prim.Native.Nat.{ℕ, suc, ◌+◌, ◌-◌, ◌<◌}
use native.Mathlib.Numerals.{add-one}
use native.Mathlib.Omega.{arith}
use lib.ListN.{length, get_or, drop, replicate, set}
use lib.Seq.{drop-cons}
use Rattle.std.proofs.lemmas.List.{set_at, drop_more, replicate_more, length-replicate}
use Rattle.base.specs.Lists.{counted, range}
use Rattle.base.proofs.Laws.Ranges.{length-counted, counted-snoc}

-- ---- zeros

-- A buffer that was d, and holds v below i.
pub clear-more : {A : Type 0} (v : A) (d b : List A) (i : ℕ) → i < length d → b ≡ replicate i v ++ drop i d → set b i v ≡ replicate (i + 1) v ++ drop (i + 1) d
clear-more v d b i h is =
    ap (λ (l : List _). set l i v) is
    ∙ ap (λ (t : List _). set (replicate i v ++ t) i v) (drop_more d i v h)
    ∙ set_at (replicate i v) (get_or d i v) (drop (i + 1) d) v i (length-replicate i v)
    ∙ sym (append_assoc (replicate i v) (v ∷ []) (drop (i + 1) d))
    ∙ ap (λ (l : List _). l ++ drop (i + 1) d) (replicate_more i v)

-- ---- numbers

pub length-range : (n : ℕ) → length (range 0 n) ≡ n
unfolding range
length-range n = length-counted 0 (n - 0) ∙ omega arith

pub range_snoc : (n : ℕ) → range 0 (n + 1) ≡ range 0 n ++ (n ∷ [])
unfolding range
range_snoc n =
    let e : n + 1 - 0 ≡ suc (n - 0) = omega arith in
    let f : 0 + (n - 0) ≡ n = omega arith in
    ap (counted 0) e ∙ counted-snoc 0 (n - 0) ∙ ap (λ (x : ℕ). counted 0 (n - 0) ++ (x ∷ [])) f

pub count-more : (d : List ℕ) (i : ℕ) → i < length d → set (range 0 i ++ drop i d) i i ≡ range 0 (i + 1) ++ drop (i + 1) d
count-more d i h =
    ap (λ (t : List ℕ). set (range 0 i ++ t) i i) (drop-cons d i 0 h)
    ∙ set_at (range 0 i) (get_or d i 0) (drop (suc i) d) i i (length-range i)
    ∙ sym (append_assoc (range 0 i) (i ∷ []) (drop (suc i) d))
    ∙ ap (λ (t : List ℕ). t ++ drop (suc i) d) (sym (range_snoc i))
    ∙ ap (λ (k : ℕ). range 0 (i + 1) ++ drop k d) (sym (add-one i))
