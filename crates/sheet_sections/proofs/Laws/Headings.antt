-- A heading is the bytes that a line starts with, and a newline stands behind them.
use mathlib.Core.Path.{◌≡◌, refl, sym, ap, ◌∙◌}
use mathlib.Core.Bool.{Bool, true, false, not, cond, ◌&&◌, and-true, and-false}
use mathlib.Core.List.{List, [], ◌∷◌}
use Prim.Native.Nat.{ℕ}
use lib.Dec.{eqb}
use lib.ListN.{length, take, drop}
use borrow.Author.Tests.{eqb-true, eqb-false, eq-eqb, ne_eqb, not-true}
use Rattle.std.specs.Cmp.Lexicographic.{pointwise}
use mathlib.Core.Logic.{⊎_elim}
use Rattle.base.proofs.Laws.Truth.{eq_cases, and_left, and_right}
use Rattle.sheet.specs.Text.{newline, Text, rest, line, push, lines}
use Rattle.sheet.specs.Inner.Lines.{head_line, is_line}
use Rattle.sheet.specs.Inner.LineBytes.{no_newline}
use Rattle.sheet.specs.Form.{same}
use Rattle.sheet.specs.Inner.Headings.{has_line}

has_line-end : (h : List ℕ) → has_line h (lines []) ≡ false
unfolding has_line lines
has_line-end h = refl

has_line-nil : (b : ℕ) (s : List ℕ) → has_line [] (lines (b ∷ s)) ≡ eqb b newline
unfolding has_line lines
has_line-nil b s = go (eqb b newline) (lines s)
  where
    go : (e : Bool) (t : Text) → (is_line (cond e (line [] t) (push b t)) && same (head_line (cond e (line [] t) (push b t))) []) ≡ e
    go true t = refl
    go false (rest r) = refl
    go false (line l t) = refl

has_line-cons : (c : ℕ) (h : List ℕ) (b : ℕ) (s : List ℕ) → eqb c newline ≡ false
    → has_line (c ∷ h) (lines (b ∷ s)) ≡ (eqb b c && has_line h (lines s))
unfolding has_line lines
has_line-cons c h b s n = go (eqb b newline) refl (lines s)
  where
    go : (e : Bool) → eqb b newline ≡ e → (t : Text)
        → (is_line (cond e (line [] t) (push b t)) && same (head_line (cond e (line [] t) (push b t))) (c ∷ h))
        ≡ (eqb b c && (is_line t && same (head_line t) h))
    go true e t = sym (rw (ne_eqb b c (λ q. eqb-false c newline n (sym q ∙ eqb-true b newline e))))
    go false e (rest r) = sym (and-false (eqb b c))
    go false e (line l t) = refl

eqb_swap : (a b : ℕ) → eqb a b ≡ eqb b a
eqb_swap a b = ⊎_elim (λ (e : a ≡ b). rw (eq-eqb a b e, eq-eqb b a (sym e))) (λ (n : a ≡ b → ⊥). rw (ne_eqb a b n, ne_eqb b a (λ e. n (sym e)))) (eq_cases a b)

abbrev newline_first : List ℕ → Bool
newline_first s = pointwise eqb (newline ∷ []) (take 1 s)

abbrev starts : List ℕ → List ℕ → Bool
starts h s = pointwise eqb (take (length h) s) h

has_line-starts : (h s : List ℕ) → no_newline h ≡ true → has_line h (lines s) ≡ (starts h s && newline_first (drop (length h) s))
has_line-starts [] [] n = has_line-end []
has_line-starts [] (b ∷ s) n = has_line-nil b s ∙ eqb_swap b newline ∙ sym (and-true (eqb newline b))
has_line-starts (c ∷ h) [] n = has_line-end (c ∷ h)
has_line-starts (c ∷ h) (b ∷ s) n =
    has_line-cons c h b s (not-true _ (and_left _ _ n)) ∙ ap (λ (y : Bool). eqb b c && y) (has_line-starts h s (and_right (not (eqb c newline)) _ n))
    ∙ go (eqb b c)
  where
    go : (e : Bool) → (e && (starts h s && newline_first (drop (length h) s))) ≡ ((e && starts h s) && newline_first (drop (length h) s))
    go true = refl
    go false = refl

-- ---- the ways out of `line_is`

module _ (h s : List ℕ) (n : no_newline h ≡ true) where
  pub heading-none : starts h s ≡ false → false ≡ has_line h (lines s)
  heading-none f = sym (has_line-starts h s n ∙ rw f)

  pub heading-is : starts h s ≡ true → newline_first (drop (length h) s) ≡ has_line h (lines s)
  heading-is y = sym (has_line-starts h s n ∙ rw y)
