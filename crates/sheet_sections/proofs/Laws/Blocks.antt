-- The loop of `rows_at`.
use mathlib.Core.Path.{◌≡◌, refl, ap, ◌∙◌}
use mathlib.Core.Bool.{true, false}
use mathlib.Core.List.{List, [], ◌∷◌, ◌++◌}
use Prim.Native.Nat.{ℕ, suc, ◌+◌, ◌≤◌, ◌<◌}
use native.Mathlib.Omega.{arith}
use lib.ListN.{length, get_or, drop, length-append}
use Rattle.sheet.specs.Text.{newline, Text, rest, line, lines}
use Rattle.sheet.specs.Inner.Lines.{head_line, line_at}
use Rattle.sheet.proofs.Laws.LineLaws.{text-end, text-newline, passes-byte}
use Rattle.sheet.specs.Form.{Block, stops, ends, more, block}
use Rattle.sheet.specs.declared.Area.{Area}
use Rattle.sheet.specs.Tables.{put_row, put_rows}
use Rattle.sheet_sections.specs.Inner.Lines.{has_row, RowStored}
use Rattle.sheet_sections.specs.Inner.Blocks.{BlockRead, BlockStops}

-- Rows in front of a block.
abbrev before : List (List ℕ) → Block → Block
before [] b = b
before (l ∷ ls) b = more l (before ls b)

before_more : (ls : List (List ℕ)) (l : List ℕ) (b : Block) → before ls (more l b) ≡ before (ls ++ (l ∷ [])) b
before_more [] l b = refl
before_more (m ∷ ls) l b = ap (more m) (before_more ls l b)

before-stops : (ls : List (List ℕ)) → before ls (stops 0) ≡ stops (length ls)
before-stops [] = refl
before-stops (l ∷ ls) = ap (more l) (before-stops ls)

before-ends : (ls : List (List ℕ)) (t : Text) → before ls (ends [] t) ≡ ends ls t
before-ends [] t = refl
before-ends (l ∷ ls) t = ap (more l) (before-ends ls t)

-- A line that is not empty, as a row or not.
block_row : (k b : ℕ) (l : List ℕ) (u : Text) → has_row k (line (b ∷ l) u) ≡ true → block k (line (b ∷ l) u) ≡ more (b ∷ l) (block k u)
unfolding block has_row
block_row k b l u h = rw h

block_none : (k : ℕ) (t : Text) (b : ℕ) (l : List ℕ) → head_line t ≡ b ∷ l → has_row k t ≡ false → block k t ≡ stops 0
unfolding block has_row
block_none k (rest r) b l e h = refl
block_none k (line [] t) b l e h = let z : ◌≡◌ {A = ℕ} 0 (length (b ∷ l)) = ap length e in absurd (omega (arith, z))
block_none k (line (c ∷ m) t) b l e h = rw h

put_rows-snoc : (a : Area) (r : ℕ) (ls : List (List ℕ)) (l d : List ℕ)
    → put_row a (r + length ls) l (put_rows a r ls d) ≡ put_rows a r (ls ++ (l ∷ [])) d
unfolding put_rows
put_rows-snoc a r [] l d = let z : r + 0 ≡ r = omega arith in ap (λ (n : ℕ). put_row a n l d) z
put_rows-snoc a r (m ∷ ls) l d =
    let z : r + suc (length ls) ≡ suc r + length ls = omega arith in
    ap (λ (n : ℕ). put_row a n l (put_rows a (suc r) ls (put_row a r m d))) z ∙ put_rows-snoc a (suc r) ls l (put_row a r m d)

-- n rows are read, up to place i, and the table e has them.
pub record ReadingBlock (s : List ℕ) (at : ℕ) (a : Area) (d : List ℕ) (i n : ℕ) (e : List ℕ) : Type 0 where
  pub done : List (List ℕ)
  pub count : length done ≡ n
  pub low : at + n ≤ i
  pub high : i ≤ length s
  pub so_far : block a.width (lines (drop at s)) ≡ before done (block a.width (lines (drop i s)))
  pub table : e ≡ put_rows a 1 done d
  pub size : length e ≡ length d

module _ (s : List ℕ) (at : ℕ) (a : Area) (d : List ℕ) where
  pub block_reading_first : at ≤ length s → ReadingBlock s at a d at 0 d
  unfolding put_rows
  block_reading_first h = record {
    done = [];
    count = refl;
    low = omega arith;
    high = h;
    so_far = refl;
    table = refl;
    size = refl;
  }

  module _ {i n : ℕ} {e : List ℕ} (g : ReadingBlock s at a d i n e) where
    -- The empty line.
    pub reading-ended : i < length s → get_or s i 0 ≡ newline → BlockRead s at a d (record { next = i + 1; rows = n }) e
    unfolding block
    reading-ended h b = record {
      done = g.done;
      count = g.count;
      ended = g.so_far ∙ ap (λ (u : Text). before g.done (block a.width u)) (text-newline s i h b) ∙ before-ends g.done (lines (drop (i + 1) s));
      table = g.table;
      next = (omega (arith, g.low), omega arith);
    }

    -- A line at fault, or none.
    stopped : block a.width (lines (drop i s)) ≡ stops 0 → BlockStops s at a n
    stopped none = record {
      fault = g.so_far ∙ ap (before g.done) none ∙ before-stops g.done ∙ ap stops g.count;
      few = omega (arith, g.low, g.high);
    }

    pub reading-end : length s ≤ i → BlockStops s at a n
    unfolding block
    reading-end h = stopped (ap (block a.width) (text-end s i h))

    module _ (h : i < length s) (b : get_or s i 0 ≡ newline → ⊥) where
      head : line_at s i ≡ get_or s i 0 ∷ line_at s (i + 1)
      head = (passes-byte s i h b).first

      pub reading-fault : has_row a.width (lines (drop i s)) ≡ false → BlockStops s at a n
      reading-fault f = stopped (block_none a.width (lines (drop i s)) (get_or s i 0) (line_at s (i + 1)) head f)

      module _ (next : ℕ) (e' : List ℕ) (l : RowStored s i a (n + 1) e next e') where
        row : block a.width (lines (drop i s)) ≡ more (line_at s i) (block a.width (lines (drop next s)))
        row =
            let q = l.ends.line in
            let has : has_row a.width (line (line_at s i) (lines (drop next s))) ≡ true = rw q at l.is in
            ap (block a.width) q ∙ rw head (block_row a.width (get_or s i 0) (line_at s (i + 1)) (lines (drop next s)) (rw head at has))

        pub block_reading_next : length e' ≡ length e → ReadingBlock s at a d next (n + 1) e'
        block_reading_next z =
            let c : n + 1 ≡ 1 + length g.done = omega (arith, g.count) in
            record {
              done = g.done ++ (line_at s i ∷ []);
              count = length-append g.done (line_at s i ∷ []) ∙ omega (arith, g.count);
              low = omega (arith, g.low, l.ends.inside.0);
              high = l.ends.inside.1;
              so_far = g.so_far ∙ ap (before g.done) row ∙ before_more g.done (line_at s i) (block a.width (lines (drop next s)));
              table = l.table ∙ ap (λ (k : ℕ). put_row a k (line_at s i) e) c ∙ rw g.table (put_rows-snoc a 1 g.done (line_at s i) d);
              size = z ∙ g.size;
            }
