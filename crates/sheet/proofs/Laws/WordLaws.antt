-- The words of a line that starts with digits.
use mathlib.Core.Path.{◌≡◌, refl, ap, ◌∙◌}
use mathlib.Core.Bool.{Bool, true, false, cond, and-false}
use mathlib.Core.List.{List, [], ◌∷◌, ◌++◌, append-nil}
use Prim.Native.Nat.{ℕ}
use native.Mathlib.Omega.{arith}
use lib.Dec.{eqb}
use borrow.Author.Tests.{leb-true, ne_eqb}
use Rattle.base.proofs.Laws.Truth.{and_left, and_right}
use Rattle.base.specs.Lists.{all}
use Rattle.base.proofs.Laws.Subsets.{all_mono}
use Rattle.sheet.specs.Text.{newline, space, join, words, digit, are_numbers}
use Rattle.sheet.specs.Inner.LineBytes.{no_newline}

-- A digit is neither a newline nor a space.
pub digits-no_newline : (ds : List ℕ) → all digit ds ≡ true → no_newline ds ≡ true
digits-no_newline = all_mono (λ b h. let g = leb-true 48 b (and_left _ _ h) in rw (ne_eqb b newline (λ e. omega arith)))

digit_no_space : (b : ℕ) → digit b ≡ true → eqb b space ≡ false
digit_no_space b h = let g = leb-true 48 b (and_left _ _ h) in ne_eqb b space (λ e. omega arith)

words-other : (b : ℕ) (l : List ℕ) → eqb b space ≡ false → words (b ∷ l) ≡ join b (words l)
unfolding words
words-other b l h = rw h

-- There is a first word.
words-cons : (l : List ℕ) → (w : List ℕ) × (ws : List (List ℕ)) × (words l ≡ w ∷ ws)
unfolding words
words-cons [] = ([], [], refl)
words-cons (b ∷ l) = go (eqb b space) (words-cons l)
  where
    go : (t : Bool) → (w : List ℕ) × (ws : List (List ℕ)) × (words l ≡ w ∷ ws)
        → (w : List ℕ) × (ws : List (List ℕ)) × (cond t ([] ∷ words l) (join b (words l)) ≡ w ∷ ws)
    go true h = ([], words l, refl)
    go false h = (b ∷ h.0, h.1, ap (join b) h.2)

pub words-some : (l : List ℕ) → are_numbers 0 (words l) ≡ false
unfolding are_numbers
words-some l = ap (are_numbers 0) (words-cons l).2

module _ (ds : List ℕ) (d : all digit ds ≡ true) where
  -- Digits in front belong to the first word.
  words-digits : (l w : List ℕ) (ws : List (List ℕ)) → words l ≡ w ∷ ws → words (ds ++ l) ≡ (ds ++ w) ∷ ws
  words-digits l w ws e = go ds d
    where
      go : (es : List ℕ) → all digit es ≡ true → words (es ++ l) ≡ (es ++ w) ∷ ws
      go [] h = e
      go (b ∷ es) h = words-other b (es ++ l) (digit_no_space b (and_left _ _ h)) ∙ ap (join b) (go es (and_right (digit b) _ h))

  pub words-one : words ds ≡ ds ∷ []
  unfolding words
  words-one = rw (append-nil ds) at (words-digits [] [] [] refl)

  pub words-space : (l : List ℕ) → words (ds ++ (space ∷ l)) ≡ ds ∷ words l
  unfolding words
  words-space l = words-digits (space ∷ l) [] (words l) refl ∙ ap (λ (w : List ℕ). w ∷ words l) (append-nil ds)

  -- Another byte behind them: the first word is no row of digits.
  pub words-odd : (b : ℕ) (l : List ℕ) → eqb b space ≡ false → digit b ≡ false
      → (w : List ℕ) × (ws : List (List ℕ)) × (words (ds ++ (b ∷ l)) ≡ w ∷ ws) × (all digit w ≡ false)
  words-odd b l p h =
      let r = words-cons l in
      (ds ++ (b ∷ r.0), r.1, words-digits (b ∷ l) (b ∷ r.0) r.1 (words-other b l p ∙ ap (join b) r.2), odd ds)
    where
      odd : (es : List ℕ) → all digit (es ++ (b ∷ (words-cons l).0)) ≡ false
      odd [] = rw h
      odd (c ∷ es) = rw (odd es) (and-false (digit c))
