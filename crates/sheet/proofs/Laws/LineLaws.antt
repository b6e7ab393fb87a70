-- Laws of `LineLaws`.
use mathlib.Core.Path.{◌≡◌, refl, sym, ap, ◌∙◌}
use mathlib.Core.Bool.{Bool, true, false, not, cond}
use mathlib.Core.List.{List, [], ◌∷◌, ◌++◌}
use mathlib.Core.Logic.{⊎_elim}
use Prim.Native.Nat.{ℕ, suc, ◌+◌, ◌-◌, ◌≤◌, ◌<◌}
use native.Mathlib.Numerals.{add-one}
use native.Mathlib.Omega.{arith}
use lib.Dec.{eqb}
use lib.ListN.{length, get_or, take, drop, drop_of_length-le, length-append, length-drop}
use lib.Seq.{drop-cons, take_at}
use borrow.Author.Tests.{eqb-true, ne_eqb, not-true}
use Rattle.base.proofs.Laws.Truth.{bool_cases, lt_cases, not-both, and_left, and_right}
use Rattle.sheet.specs.Text.{newline, Text, rest, line, push, lines}
use Rattle.sheet.specs.Inner.Lines.{LineTo, head_line, after, is_line, line_at}
use Rattle.sheet.specs.Inner.LineBytes.{no_newline}

pub whole-line : (t : Text) → is_line t ≡ true → t ≡ line (head_line t) (after t)
whole-line (rest r) h = absurd (not-both h refl)
whole-line (line l t) h = refl

-- The bytes l in front of the bytes s stand in front of their first line, and change nothing behind it.
pub record Prefixed (l s : List ℕ) : Type 0 where
  pub first : head_line (lines (l ++ s)) ≡ l ++ head_line (lines s)
  pub after : after (lines (l ++ s)) ≡ after (lines s)
  pub is_line : is_line (lines (l ++ s)) ≡ is_line (lines s)

module _ (b : ℕ) where
  first-push : (t : Text) → head_line (push b t) ≡ b ∷ head_line t
  first-push (rest r) = refl
  first-push (line m t) = refl

  after_push : (t : Text) → after (push b t) ≡ after t
  after_push (rest r) = refl
  after_push (line m t) = refl

  is_line-push : (t : Text) → is_line (push b t) ≡ is_line t
  is_line-push (rest r) = refl
  is_line-push (line m t) = refl

  lines-push : (s : List ℕ) → eqb b newline ≡ false → lines (b ∷ s) ≡ push b (lines s)
  unfolding lines
  lines-push s h = rw h

pub prefixed : (l s : List ℕ) → no_newline l ≡ true → Prefixed l s
prefixed [] s h = record { first = refl; after = refl; is_line = refl }
prefixed (b ∷ l) s h =
    let p = prefixed l s (and_right (not (eqb b newline)) _ h) in
    let pushed = lines-push b (l ++ s) (not-true _ (and_left _ _ h)) in
    record {
      first = ap head_line pushed ∙ first-push b (lines (l ++ s)) ∙ ap (λ (m : List ℕ). b ∷ m) p.first;
      after = ap after pushed ∙ after_push b (lines (l ++ s)) ∙ p.after;
      is_line = ap is_line pushed ∙ is_line-push b (lines (l ++ s)) ∙ p.is_line;
    }

pub lines-newline : (s : List ℕ) → lines (newline ∷ s) ≡ line [] (lines s)
unfolding lines
lines-newline s = refl

-- The first line ends at a newline, and behind that stands what follows it.
pub record Behind (s : List ℕ) : Type 0 where
  pub inside : length (head_line (lines s)) < length s
  pub ends : get_or s (length (head_line (lines s))) 0 ≡ newline
  pub is : after (lines s) ≡ lines (drop (suc (length (head_line (lines s)))) s)

pub behind-line : (s : List ℕ) → is_line (lines s) ≡ true → Behind s
unfolding lines
behind-line [] h = absurd (not-both h refl)
behind-line (b ∷ s) h =
    ⊎_elim (λ (e : eqb b newline ≡ true). record { inside = rw e (omega arith); ends = rw e (eqb-true b newline e); is = rw e })
    (λ (e : eqb b newline ≡ false).
    let p = prefixed (b ∷ []) s (rw e) in
    let r = behind-line s (sym p.is_line ∙ h) in
    record { inside = rw p.first (omega (arith, r.inside)); ends = rw p.first r.ends; is = p.after ∙ r.is ∙ rw p.first })
    (bool_cases (eqb b newline))

-- ---- at a place

module _ (s : List ℕ) (i : ℕ) where
  pub drop-next : i < length s → drop i s ≡ get_or s i 0 ∷ drop (i + 1) s
  drop-next h = rw (add-one) (drop-cons s i 0 h)

  pub text-end : length s ≤ i → lines (drop i s) ≡ rest []
  unfolding lines
  text-end h = ap lines (drop_of_length-le s h)

  pub text-newline : i < length s → get_or s i 0 ≡ newline → lines (drop i s) ≡ line [] (lines (drop (i + 1) s))
  text-newline h e = ap lines (drop-next h) ∙ ap (λ (b : ℕ). lines (b ∷ drop (i + 1) s)) e ∙ lines-newline (drop (i + 1) s)

  pub line-inside : is_line (lines (drop i s)) ≡ true → i < length s
  line-inside h =
      ⊎_elim (λ (l : i < length s). l) (λ (l : length s ≤ i). absurd (not-both h (ap is_line (text-end l)))) (lt_cases i (length s))

  -- The text from a place where no newline stands, beside the text from the next place.
  pub record PassesByte : Type 0 where
    pub first : head_line (lines (drop i s)) ≡ get_or s i 0 ∷ head_line (lines (drop (i + 1) s))
    pub after : after (lines (drop i s)) ≡ after (lines (drop (i + 1) s))
    pub is_line : is_line (lines (drop i s)) ≡ is_line (lines (drop (i + 1) s))

  pub passes-byte : i < length s → (get_or s i 0 ≡ newline → ⊥) → PassesByte
  passes-byte h ne =
      let b = get_or s i 0 in
      let p = prefixed (b ∷ []) (drop (i + 1) s) (rw (ne_eqb b newline ne)) in
      record {
        first = ap (λ (t : List ℕ). head_line (lines t)) (drop-next h) ∙ p.first;
        after = ap (λ (t : List ℕ). after (lines t)) (drop-next h) ∙ p.after;
        is_line = ap (λ (t : List ℕ). is_line (lines t)) (drop-next h) ∙ p.is_line;
      }

-- ---- a line as a part of the bytes

-- The bytes of a text.
abbrev bytes_of : Text → List ℕ
bytes_of (rest r) = r
bytes_of (line l t) = l ++ (newline ∷ bytes_of t)

bytes_of-lines : (s : List ℕ) → bytes_of (lines s) ≡ s
unfolding lines
bytes_of-lines [] = refl
bytes_of-lines (b ∷ s) = go (eqb b newline) refl (lines s) (bytes_of-lines s)
  where
    go : (e : Bool) → eqb b newline ≡ e → (t : Text) → bytes_of t ≡ s → bytes_of (cond e (line [] t) (push b t)) ≡ b ∷ s
    go true e t h = rw (eqb-true b newline e, h)
    go false e (rest r) h = rw h
    go false e (line l t) h = rw h

pub line-part : (s : List ℕ) (at next : ℕ) → LineTo s at next → take (next - 1 - at) (drop at s) ≡ line_at s at
line-part s at next l =
    let is : drop at s ≡ line_at s at ++ (newline ∷ drop next s) =
    sym (bytes_of-lines (drop at s)) ∙ ap bytes_of l.line ∙ ap (λ (u : List ℕ). line_at s at ++ (newline ∷ u)) (bytes_of-lines (drop next s)) in
    let sizes : length s - at ≡ length (line_at s at) + suc (length s - next) =
    omega (arith, ap length is, length-append (line_at s at) (newline ∷ drop next s), length-drop at s, length-drop next s) in
    let n : length (line_at s at) ≡ next - 1 - at = omega (arith, sizes, l.inside.0, l.inside.1) in
    ap (take (next - 1 - at)) is ∙ take_at (line_at s at) (newline ∷ drop next s) (next - 1 - at) n
