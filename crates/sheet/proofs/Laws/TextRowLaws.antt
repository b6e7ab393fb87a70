-- Laws of `RowLaws`.
use mathlib.Core.Path.{◌≡◌, refl, sym, ap, ◌∙◌, subst}
use mathlib.Core.Bool.{Bool, true, false, ◌&&◌, and-false, and_assoc, and_comm}
use mathlib.Core.List.{List, [], ◌∷◌, ◌++◌, append-nil}
use mathlib.Core.Logic.{⊎_elim}
use Prim.Native.Nat.{ℕ, suc, ◌≤◌, ◌<◌}
use lib.ListN.{length, get_or, drop, drop_of_length-le}
use lib.Seq.{drop-cons}
use borrow.Author.Tests.{ne_eqb}
use Rattle.base.proofs.Laws.Truth.{lt_cases, eq_cases}
use Rattle.base.specs.Lists.{all}
use Rattle.sheet.specs.Text.{newline, space, lines, words, digit, value, is_number, are_numbers, values}
use Rattle.sheet.specs.Inner.Lines.{head_line, after, is_line}
use Rattle.sheet.proofs.Laws.LineLaws.{Prefixed, prefixed, lines-newline}
use Rattle.sheet.specs.Inner.Digits.{digits_of}
use Rattle.sheet.proofs.Laws.DigitLaws.{digits_of-digits, digits_of-next, digits_of_split, number_digits}
use Rattle.sheet.proofs.Laws.WordLaws.{digits-no_newline, words-one, words-space, words-odd, words-some}
use Rattle.sheet.specs.Inner.RowLines.{line_fits, LineEnded, Spaced}

-- ---- digits, a byte behind them, and bytes behind that

swap : (a b c : Bool) → (a && (b && c)) ≡ (b && (a && c))
swap a b c = sym (and_assoc a b c) ∙ rw (and_comm a b) (and_assoc b a c)

module _ (ds : List ℕ) (d : all digit ds ≡ true) where
  ahead : (s : List ℕ) → Prefixed ds s
  ahead s = prefixed ds s (digits-no_newline ds d)

  fits-alone : (k : ℕ) → line_fits k (lines ds) ≡ false
  unfolding line_fits lines
  fits-alone k = let e = rw (append-nil ds) at (ahead []).is_line in rw e

  module _ (u : List ℕ) where
    ended-first : head_line (lines (ds ++ (newline ∷ u))) ≡ ds
    ended-first = (ahead (newline ∷ u)).first ∙ rw (lines-newline u) (append-nil ds)

    fits-newline : (k : ℕ) → line_fits (suc k) (lines (ds ++ (newline ∷ u))) ≡ (is_number ds && are_numbers k [])
    unfolding line_fits are_numbers
    fits-newline k = rw ((ahead (newline ∷ u)).is_line, lines-newline u, ended-first, words-one ds d)

    ended : is_number ds ≡ true → LineEnded (ds ++ (newline ∷ u)) (value 0 ds) u
    unfolding are_numbers values
    ended n = record {
      fit = rw n at (fits-newline 0);
      vals = rw (ended-first, words-one ds d);
      behind = (ahead (newline ∷ u)).after ∙ ap after (lines-newline u);
    }

    spaced-first : head_line (lines (ds ++ (space ∷ u))) ≡ ds ++ (space ∷ head_line (lines u))
    spaced-first = (ahead (space ∷ u)).first ∙ ap (λ (l : List ℕ). ds ++ l) (prefixed (space ∷ []) u refl).first

    fits-space : (k : ℕ) → line_fits (suc k) (lines (ds ++ (space ∷ u))) ≡ (is_number ds && line_fits k (lines u))
    unfolding line_fits are_numbers
    fits-space k =
        rw ((ahead (space ∷ u)).is_line, (prefixed (space ∷ []) u refl).is_line, spaced-first, words-space ds d (head_line (lines u)))
        (swap (is_line (lines u)) (is_number ds) (are_numbers k (words (head_line (lines u)))))

    spaced : is_number ds ≡ true → Spaced (ds ++ (space ∷ u)) (value 0 ds) u
    unfolding values
    spaced n = record {
      fit = λ k. rw n at (fits-space k);
      vals = rw (spaced-first, words-space ds d (head_line (lines u)));
      behind = (ahead (space ∷ u)).after ∙ (prefixed (space ∷ []) u refl).after;
    }

    fits-odd : (b k : ℕ) → digit b ≡ false → (b ≡ newline → ⊥) → (b ≡ space → ⊥) → line_fits (suc k) (lines (ds ++ (b ∷ u))) ≡ false
    unfolding line_fits are_numbers
    fits-odd b k h ten sp =
        let f = (ahead (b ∷ u)).first ∙ ap (λ (l : List ℕ). ds ++ l) (prefixed (b ∷ []) u (rw (ne_eqb b newline ten))).first in
        let w = words-odd ds d b (head_line (lines u)) (ne_eqb b space sp) h in
        rw (f, w.2, number_digits w.0 w.3) (and-false (is_line (lines (ds ++ (b ∷ u)))))

-- ---- the digits that bytes start with

module _ (t : List ℕ) where
  abbrev size : ℕ
  size = length (digits_of t)

  -- Nothing stands behind them.
  pub no_more : (k : ℕ) → length t ≤ size → line_fits k (lines t) ≡ false
  no_more k h =
      let e : t ≡ digits_of t = digits_of_split t ∙ ap (λ (l : List ℕ). digits_of t ++ l) (drop_of_length-le t h) ∙ append-nil (digits_of t) in
      ap (λ (l : List ℕ). line_fits k (lines l)) e ∙ fits-alone (digits_of t) (digits_of-digits t) k

  module _ (h : size < length t) where
    abbrev behind : List ℕ
    behind = drop (suc size) t

    split : t ≡ digits_of t ++ (get_or t size 0 ∷ behind)
    split = digits_of_split t ∙ ap (λ (l : List ℕ). digits_of t ++ l) (drop-cons t size 0 h)

    split_at : {b : ℕ} → get_or t size 0 ≡ b → t ≡ digits_of t ++ (b ∷ behind)
    split_at e = split ∙ ap (λ (b : ℕ). digits_of t ++ (b ∷ behind)) e

    pub starts_spaced : is_number (digits_of t) ≡ true → get_or t size 0 ≡ space → Spaced t (value 0 (digits_of t)) behind
    starts_spaced n e =
        subst (λ (l : List ℕ). Spaced l (value 0 (digits_of t)) behind) (sym (split_at e)) (spaced (digits_of t) (digits_of-digits t) behind n)

    pub starts_ended : is_number (digits_of t) ≡ true → get_or t size 0 ≡ newline → LineEnded t (value 0 (digits_of t)) behind
    starts_ended n e =
        subst (λ (l : List ℕ). LineEnded l (value 0 (digits_of t)) behind) (sym (split_at e)) (ended (digits_of t) (digits_of-digits t) behind n)

    -- How a row goes on, by the byte behind the digits.
    at-newline : (k : ℕ) → get_or t size 0 ≡ newline → line_fits (suc k) (lines t) ≡ (is_number (digits_of t) && are_numbers k [])
    at-newline k e = ap (λ (l : List ℕ). line_fits (suc k) (lines l)) (split_at e) ∙ fits-newline (digits_of t) (digits_of-digits t) behind k

    at-space : (k : ℕ) → get_or t size 0 ≡ space → line_fits (suc k) (lines t) ≡ (is_number (digits_of t) && line_fits k (lines behind))
    at-space k e = ap (λ (l : List ℕ). line_fits (suc k) (lines l)) (split_at e) ∙ fits-space (digits_of t) (digits_of-digits t) behind k

    at-odd : (k : ℕ) → (get_or t size 0 ≡ newline → ⊥) → (get_or t size 0 ≡ space → ⊥) → line_fits (suc k) (lines t) ≡ false
    at-odd k ten sp =
        ap (λ (l : List ℕ). line_fits (suc k) (lines l)) split
        ∙ fits-odd (digits_of t) (digits_of-digits t) behind (get_or t size 0) k (digits_of-next t) ten sp

    -- Two numbers or more are wanted, and no space stands behind the first.
    pub no_space : (k : ℕ) → (get_or t size 0 ≡ space → ⊥) → line_fits (suc (suc k)) (lines t) ≡ false
    unfolding are_numbers
    no_space k sp =
        ⊎_elim (λ (e : get_or t size 0 ≡ newline). at-newline (suc k) e ∙ and-false (is_number (digits_of t)))
        (λ (ten : get_or t size 0 ≡ newline → ⊥). at-odd (suc k) ten sp) (eq_cases (get_or t size 0) newline)

    -- One is wanted, and no newline stands behind it.
    pub no_newline : (get_or t size 0 ≡ newline → ⊥) → line_fits 1 (lines t) ≡ false
    unfolding line_fits
    no_newline ten =
        ⊎_elim
        (λ (e : get_or t size 0 ≡ space).
        at-space 0 e ∙ rw (words-some (head_line (lines behind)), and-false (is_line (lines behind))) (and-false (is_number (digits_of t))))
        (λ (sp : get_or t size 0 ≡ space → ⊥). at-odd 0 ten sp) (eq_cases (get_or t size 0) space)

  -- They are no number.
  pub no_number : (k : ℕ) → is_number (digits_of t) ≡ false → line_fits (suc k) (lines t) ≡ false
  no_number k n = ⊎_elim inside (no_more (suc k)) (lt_cases size (length t))
    where
      inside : size < length t → line_fits (suc k) (lines t) ≡ false
      inside h =
          ⊎_elim (λ (e : get_or t size 0 ≡ newline). rw n at (at-newline h k e))
          (λ (ten : get_or t size 0 ≡ newline → ⊥).
          ⊎_elim (λ (e : get_or t size 0 ≡ space). rw n at (at-space h k e)) (at-odd h k ten) (eq_cases (get_or t size 0) space))
          (eq_cases (get_or t size 0) newline)
