-- The first byte that is no letter or digit decides whether a line is a name.
use mathlib.Core.Path.{◌≡◌, refl, sym, ap, ◌∙◌}
use mathlib.Core.Bool.{Bool, true, false, not, ◌&&◌, and-false}
use mathlib.Core.List.{List, [], ◌∷◌}
use mathlib.Core.Logic.{⊎_elim}
use Prim.Native.Nat.{ℕ, suc, ◌+◌, ◌≤◌, ◌<◌}
use native.Mathlib.Omega.{arith}
use lib.Dec.{eqb, leb}
use lib.ListN.{length, get_or, drop, length-drop}
use lib.Seq.{get_or-drop}
use borrow.Author.Tests.{eqb-true, eqb-false, eq-eqb, ne_eqb, le-leb, lt-leb, lt-ltb}
use Rattle.std.specs.Prelude.{Some, None}
use Rattle.std.specs.List.{position, position_or_len}
use Rattle.base.specs.Limits as limits
use Rattle.base.specs.Lists.{all}
use Rattle.base.proofs.Laws.Truth.{bool_cases, not-both}
use Rattle.sheet.specs.Text.{newline, lines}
use Rattle.sheet.specs.Inner.Lines.{head_line, is_line, line_at}
use Rattle.sheet.proofs.Laws.LineLaws.{prefixed}
use Rattle.sheet.specs.Questions.{letter, letter_or_digit, is_name}
use Rattle.sheet_sections.proofs.Laws.Lines.{line-to}
use Rattle.sheet_names.specs.Inner.Names.{NameTo}

abbrev pub odd : ℕ → Bool
odd b = not (letter_or_digit b)

-- The place of the first byte that is no letter or digit.
abbrev pub stop : List ℕ → ℕ
stop = position_or_len odd

-- ---- what a line is a name by

abbrev first_letter : List ℕ → Bool
first_letter [] = false
first_letter (b ∷ l) = letter b

is_name-is : (l : List ℕ) → is_name l ≡ (first_letter l && (all letter_or_digit l && leb (length l) limits.name_bytes))
is_name-is [] = refl
is_name-is (b ∷ l) = go (letter b) refl
  where
    go : (y : Bool) → letter b ≡ y → (y && (all letter_or_digit l && leb (length (b ∷ l)) limits.name_bytes))
        ≡ (y && (all letter_or_digit (b ∷ l) && leb (length (b ∷ l)) limits.name_bytes))
    go true e = rw e
    go false e = refl

-- The first line of a text ends behind letters and digits, or has another byte at that place.
record Span (t : List ℕ) : Type 0 where
  pub inside : stop t < length t
  pub first : first_letter (head_line (lines t)) ≡ letter (get_or t 0 0)
  pub all : all letter_or_digit (head_line (lines t)) ≡ eqb (get_or t (stop t) 0) newline
  pub size : get_or t (stop t) 0 ≡ newline → length (head_line (lines t)) ≡ stop t

span : (t : List ℕ) → is_line (lines t) ≡ true → Span t
unfolding lines
span [] h = absurd (not-both h refl)
span (b ∷ t) h = ⊎_elim ends (λ (ne : eqb b newline ≡ false). goes ne (span t) (letter_or_digit b) refl) (bool_cases (eqb b newline))
  where
    ends : eqb b newline ≡ true → Span (b ∷ t)
    ends e =
        let n : b ≡ newline = eqb-true b newline e in
        rw n (record { inside = omega arith; first = refl; all = refl; size = λ z. refl })

    goes : eqb b newline ≡ false → (is_line (lines t) ≡ true → Span t) → (y : Bool) → letter_or_digit b ≡ y → Span (b ∷ t)
    goes ne behind true e =
        let p = prefixed (b ∷ []) t (rw ne) in
        let r = behind (sym p.is_line ∙ h) in
        let s : stop (b ∷ t) ≡ suc (stop t) = rw e (omega arith) in
        let same_all : (l : List ℕ) → all letter_or_digit (b ∷ l) ≡ all letter_or_digit l = λ l. rw e in
        record {
          inside = rw s (omega (arith, r.inside));
          first = ap first_letter p.first;
          all = ap (all letter_or_digit) p.first ∙ same_all (head_line (lines t)) ∙ r.all
              ∙ sym (ap (λ (i : ℕ). eqb (get_or (b ∷ t) i 0) newline) s);
          size = λ z. ap length p.first ∙ ap suc (r.size (sym (ap (λ (i : ℕ). get_or (b ∷ t) i 0) s) ∙ z)) ∙ sym s;
        }
    goes ne behind false e =
        let p = prefixed (b ∷ []) t (rw ne) in
        let s : stop (b ∷ t) ≡ 0 = rw e refl in
        let none_all : (l : List ℕ) → all letter_or_digit (b ∷ l) ≡ false = λ l. rw e in
        record {
          inside = rw s (omega arith);
          first = ap first_letter p.first;
          all = ap (all letter_or_digit) p.first ∙ none_all (head_line (lines t)) ∙ sym (ap (λ (i : ℕ). eqb (get_or (b ∷ t) i 0) newline) s ∙ ne);
          size = λ z. absurd (eqb-false b newline ne (sym (ap (λ (i : ℕ). get_or (b ∷ t) i 0) s) ∙ z));
        }

-- ---- the ways out of `name_at`

module _ (s : List ℕ) (at : ℕ) (h : is_line (lines (drop at s)) ≡ true) where
  here : Span (drop at s)
  here = span (drop at s) h

  abbrev byte : ℕ → ℕ
  byte i = get_or s (at + i) 0

  byte-is : (i : ℕ) → get_or (drop at s) i 0 ≡ byte i
  byte-is i = get_or-drop at s i 0

  first-byte : byte 0 ≡ get_or s at 0
  first-byte = let z : at + 0 ≡ at = omega arith in ap (λ (i : ℕ). get_or s i 0) z

  pub spelling_stops : None ≡ position odd (drop at s) → ⊥
  spelling_stops e = let inside = lt-ltb (stop (drop at s)) (length (drop at s)) here.inside in let q = rw inside at e in absurd cc

  module _ (n : ℕ) (e : Some n ≡ position odd (drop at s)) where
    stop-is : n ≡ stop (drop at s)
    stop-is = let inside = lt-ltb (stop (drop at s)) (length (drop at s)) here.inside in let q = rw inside at e in cc

    pub stop_inside : at + n < length s
    stop_inside = omega (arith, stop-is, here.inside, length-drop at s)

    spelled : is_name (line_at s at)
        ≡ (letter (get_or s at 0) && (eqb (byte n) newline && leb (length (line_at s at)) limits.name_bytes))
    spelled =
        is_name-is (line_at s at)
        ∙ rw (here.first, here.all, byte-is 0, first-byte, ← stop-is, byte-is n)

    pub spelling_none : letter (get_or s at 0) ≡ false → is_name (line_at s at) ≡ false
    spelling_none f = spelled ∙ rw f

    pub spelling_odd : (byte n ≡ newline → ⊥) → is_name (line_at s at) ≡ false
    spelling_odd ne = spelled ∙ rw (ne_eqb (byte n) newline ne, and-false (letter (get_or s at 0)))

    module _ (ends : byte n ≡ newline) where
      size : length (line_at s at) ≡ n
      size = here.size (ap (λ (i : ℕ). get_or (drop at s) i 0) (sym stop-is) ∙ byte-is n ∙ ends) ∙ sym stop-is

      pub spelling_long : limits.name_bytes < n → is_name (line_at s at) ≡ false
      spelling_long g =
          spelled ∙ rw (size, lt-leb n limits.name_bytes g, and-false (eqb (byte n) newline), and-false (letter (get_or s at 0)))

      pub spelling_end : letter (get_or s at 0) ≡ true → n ≤ limits.name_bytes → NameTo s at (at + n + 1)
      spelling_end y g = record {
        is = spelled ∙ rw (size, y, eq-eqb (byte n) newline ends, le-leb n limits.name_bytes g);
        ends = rw size at (line-to s at (omega (arith, stop_inside)) h);
      }
