-- The place behind a line, and the ways out of `line_at` and `put_line`.
use mathlib.Core.Path.{◌≡◌, refl, sym, ap, ◌∙◌}
use mathlib.Core.Bool.{Bool, true, false, cond, not, and-true}
use mathlib.Core.List.{List, [], ◌∷◌, ◌++◌, append_assoc}
use Prim.Native.Nat.compare
use Prim.Native.Nat.{ℕ, zero, suc, ◌+◌, ◌-◌, ◌≤◌, ◌<◌}
use native.Mathlib.Omega.{arith}
use lib.Dec.{eqb, ltb}
use lib.ListN.{length, drop, take, length-drop}
use lib.Seq.{take_all, sets, sets-eq, drop-drop}
use borrow.Author.Tests.{le-leb, lt-leb, lt-ltb}
use Rattle.std.specs.List.{position, position_or_len}
use borrow.Rule.Slice.PartMut.{mid_of, put_mid, mid_len, Post-is}
use Rattle.std.specs.Prelude.{Option, Some, None}
use Rattle.sheet.specs.Text.{newline, Text, rest, line, push, lines}
use Rattle.sheet.specs.Inner.Lines.{LineTo, head_line, is_line, line_at}
use Rattle.sheet.proofs.Laws.LineLaws.{whole-line, behind-line}
use Rattle.sheet.specs.Inner.RowLines.{line_fits}
use Rattle.sheet.specs.declared.Area.{Area}
use Rattle.sheet.specs.Tables.{row_place}
use Rattle.sheet_values.specs.Inner.Rows.{RowRead}
use Rattle.sheet_sections.specs.Inner.Lines.{has_row, LineEnd, RowLine, LineRead, LinePut}

-- What is left of a sheet from a place on.
pub tail-is : (s : List ℕ) (at : ℕ) → take (length s - at) (drop at s) ≡ drop at s
tail-is s at = take_all (length s - at) (drop at s) (omega (arith, length-drop at s))

-- ---- `skip_line`

abbrev pub ends_line : ℕ → Bool
ends_line b = eqb b newline

-- The first newline stands behind the first line, and there is one if that is a line.
position-line : (s : List ℕ) → position_or_len ends_line s ≡ length (head_line (lines s))
unfolding lines
position-line [] = refl
position-line (b ∷ s) = go (eqb b newline) (lines s) (position-line s)
  where
    go : (e : Bool) (t : Text) → position_or_len ends_line s ≡ length (head_line t)
        → cond (not e) (1 + position_or_len ends_line s) 0 ≡ length (head_line (cond e (line [] t) (push b t)))
    go true t h = refl
    go false (rest r) h = omega (arith, h)
    go false (line l t) h = omega (arith, h)

is_line-short : (s : List ℕ) → ltb (length (head_line (lines s))) (length s) ≡ is_line (lines s)
unfolding lines
is_line-short [] = refl
is_line-short (b ∷ s) = go (eqb b newline) (lines s) (is_line-short s)
  where
    go : (e : Bool) (t : Text) → ltb (length (head_line t)) (length s) ≡ is_line t
        → ltb (length (head_line (cond e (line [] t) (push b t)))) (suc (length s)) ≡ is_line (cond e (line [] t) (push b t))
    go true t h = lt-ltb 0 (suc (length s)) (omega arith)
    go false (rest r) h = rw compare.suc-suc h
    go false (line l t) h = rw compare.suc-suc h

-- A line ends behind its bytes and the newline.
pub line-to : (s : List ℕ) (at : ℕ) → at ≤ length s → is_line (lines (drop at s)) ≡ true → LineTo s at (at + length (line_at s at) + 1)
line-to s at high is =
    let b = behind-line (drop at s) is in
    let n = length (line_at s at) in
    let z : at + suc n ≡ at + n + 1 = omega arith in
    record {
      inside = (omega arith, omega (arith, b.inside, length-drop at s));
      line = whole-line (lines (drop at s)) is
          ∙ ap (λ (u : Text). line (line_at s at) u) (b.is ∙ ap lines (drop-drop (suc n) at s ∙ ap (λ (j : ℕ). drop j s) z));
    }

module _ (s : List ℕ) (at : ℕ) where
  abbrev pub newline_found : Option ℕ
  newline_found = position ends_line (drop at s)

  newline_found-is : newline_found ≡ cond (is_line (lines (drop at s))) (Some (length (line_at s at))) None
  newline_found-is = rw (position-line (drop at s), is_line-short (drop at s))

  pub skip-none : None ≡ newline_found → is_line (lines (drop at s)) ≡ false
  skip-none h = go (is_line (lines (drop at s))) (h ∙ newline_found-is)
    where
      go : (b : Bool) → None ≡ cond b (Some (length (line_at s at))) None → b ≡ false
      go true e = absurd cc
      go false e = refl

  pub skip-line : at ≤ length s → (n : ℕ) → Some n ≡ newline_found → LineTo s at (at + n + 1)
  skip-line high n h = go (is_line (lines (drop at s))) refl (h ∙ newline_found-is)
    where
      go : (b : Bool) → is_line (lines (drop at s)) ≡ b → Some n ≡ cond b (Some (length (line_at s at))) None → LineTo s at (at + n + 1)
      go true e h = let q : n ≡ length (line_at s at) = cc in rw q (line-to s at high e)
      go false e h = absurd cc

-- ---- the ways out of `line_at`

module _ (s : List ℕ) (at : ℕ) (d : List ℕ) where
  pub name-line : (r : Option ℕ) → length d ≡ 0 → LineEnd s at r → LineRead s at (length d) r d
  unfolding has_row
  name-line r z n = go d z r n
    where
      no_width : has_row 0 (lines (drop at s)) ≡ is_line (lines (drop at s))
      no_width = and-true (is_line (lines (drop at s)))

      go : (d : List ℕ) → length d ≡ 0 → (r : Option ℕ) → LineEnd s at r → LineRead s at (length d) r d
      go [] z None n = no_width ∙ n
      go [] z (Some next) n = record { is = no_width ∙ ap is_line n.line; ends = n; values = refl }
      go (v ∷ d) z r n = absurd (omega (arith, z))

  pub row_line_lem : (r : Option ℕ) (e : List ℕ) → 0 < length d → RowRead s at (length d) r e → LineRead s at (length d) r e
  unfolding has_row line_fits
  row_line_lem r e some h = go (length d) r some h
    where
      go : (k : ℕ) (r : Option ℕ) → 0 < k → RowRead s at k r e → LineRead s at k r e
      go zero r some h = absurd (omega arith)
      go (suc k) None some h = h
      go (suc k) (Some next) some h = record { is = h.fits; ends = h.ends; values = h.values }

-- ---- the ways out of `put_line`

-- A part of a list, and the list when values are in its place.
module _ (d : List ℕ) (to width : ℕ) (room : to + width ≤ length d) where
  abbrev pub part : List ℕ
  part = mid_of to (to + width - to) d

  pub part-length : length part ≡ width
  part-length = let n : to + width - to ≡ width = omega arith in mid_len to (to + width) d room ∙ n

  pub part_put : (vs : List ℕ) → length vs ≡ length part → put_mid to (to + width - to) d vs ≡ sets d to vs
  part_put vs size =
      let n : length vs ≡ width = size ∙ part-length in
      ap (λ (l : List ℕ). take to d ++ (vs ++ l)) (Post-is to (to + width) d (omega arith) ∙ ap (λ (k : ℕ). drop (to + k) d) (sym n))
      ∙ sym (sets-eq vs d to (omega arith) ∙ append_assoc (take to d) vs (drop (to + length vs) d))

module _ (s : List ℕ) (at : ℕ) (a : Area) (n : ℕ) (d : List ℕ) where
  pub put_inside : n ≤ a.rows → (room : row_place a n + a.width ≤ length d) → (r : Option ℕ) (vs : List ℕ)
      → length vs ≡ length (part d (row_place a n) a.width room) → LineRead s at (length (part d (row_place a n) a.width room)) r vs
      → LinePut s at a n d r (put_mid (row_place a n) (row_place a n + a.width - row_place a n) d vs)
  put_inside h room None vs size l = rw (part-length d (row_place a n) a.width room) at l
  put_inside h room (Some next) vs size l =
      let read : RowLine s at a.width next vs = rw (part-length d (row_place a n) a.width room) at l in
      record {
        is = read.is;
        ends = read.ends;
        table = part_put d (row_place a n) a.width room vs size ∙ ap (sets d (row_place a n)) read.values ∙ sym (rw (le-leb n a.rows h));
      }

  pub line_put_over : a.rows < n → (r : Option ℕ) (e : List ℕ) → LineRead s at a.width r e → LinePut s at a n d r d
  line_put_over h None e l = l
  line_put_over h (Some next) e l = record { is = l.is; ends = l.ends; table = sym (rw (lt-leb n a.rows h)) }
