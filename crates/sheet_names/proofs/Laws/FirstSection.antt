-- The first section of a sheet that has the form, and its rows one by one.
use mathlib.Core.Path.{◌≡◌, refl, sym, ap, ◌∙◌}
use mathlib.Core.Bool.{true, false}
use mathlib.Core.List.{List, [], ◌∷◌}
use mathlib.Core.Logic.{⊎_elim}
use Prim.Native.Nat.{ℕ, suc, ◌+◌, ◌<◌}
use native.Mathlib.Omega.{arith}
use lib.ListN.{length, get_or, drop}
use Rattle.base.proofs.Laws.Truth.{bool_cases}
use Rattle.sheet.specs.Text.{newline, bytes, Text, rest, line, lines}
use Rattle.sheet.specs.Inner.Lines.{head_line, after, is_line, line_at}
use Rattle.sheet.proofs.Laws.LineLaws.{text-newline, line-inside, passes-byte}
use Rattle.sheet.specs.Form.{Section, sections, Block, stops, ends, more, block, filled, whole_from, form, fault_of, rows_in}
use Rattle.sheet.specs.Inner.Headings.{has_line}
use Rattle.sheet.proofs.Laws.FormLaws.{behind-heading, sheet-none, sheet-some, also-fault, sheet-formed}
use Rattle.sheet.specs.Questions.{form_fault, section_rows, sheet_names}

-- The sheet s starts with the heading of the section c, and its rows stand behind that.
record Starts (c : Section) (ss : List Section) (s : List ℕ) : Type 0 where
  pub behind : Text
  pub heading : has_line c.heading (lines s) ≡ true
  pub follow : block c.width (after (lines s)) ≡ ends (get_or (rows_in (form (c ∷ ss) s)) 0 []) behind

starts : (c : Section) (ss : List Section) (s : List ℕ) → fault_of (form (c ∷ ss) s) ≡ 0 → Starts c ss s
unfolding form fault_of rows_in
starts c ss s z =
    ⊎_elim (λ (h : has_line c.heading (lines s) ≡ true). headed h (block c.width (after (lines s))) refl)
    (λ (n : has_line c.heading (lines s) ≡ false).
    absurd (let e = sym z ∙ ap fault_of (sheet-none c ss 1 (lines s) n) in omega (arith, e)))
    (bool_cases (has_line c.heading (lines s)))
  where
    headed : has_line c.heading (lines s) ≡ true → (b : Block) → block c.width (after (lines s)) ≡ b → Starts c ss s
    headed h (stops k) q =
        let e = sym z ∙ ap fault_of (sheet-some c ss 1 (lines s) h ∙ ap (filled 1 (whole_from ss)) q) in absurd (omega (arith, e))
    headed h (ends ls t) q =
        let all = sheet-some c ss 1 (lines s) h ∙ ap (filled 1 (whole_from ss)) q in
        let r = sheet-formed ss (1 + length ls + 2) t (omega arith)
        (sym (also-fault ls (whole_from ss (1 + length ls + 2) t)) ∙ sym (ap fault_of all) ∙ z) in
        record {
          behind = t;
          heading = h;
          follow = q ∙ sym (rw (all, r.is));
        }

-- ---- rows that are lines of any kind, up to an empty one

ends-line : (t : Text) (ls : List (List ℕ)) (u : Text) → block 0 t ≡ ends ls u → is_line t ≡ true
unfolding block
ends-line (rest r) ls u h = let z : ◌≡◌ {A = ℕ} 0 1 = cc in absurd (omega arith)
ends-line (line l t) ls u h = refl

ends-none : (t : Text) (ls : List (List ℕ)) (u : Text) → block 0 t ≡ ends ls u → head_line t ≡ [] → ls ≡ []
unfolding block
ends-none (rest r) ls u h e = let z : ◌≡◌ {A = ℕ} 0 1 = cc in absurd (omega arith)
ends-none (line [] t) ls u h e = cc
ends-none (line (b ∷ l) t) ls u h e = let z : ◌≡◌ {A = ℕ} (suc (length l)) 0 = ap length e in absurd (omega arith)

-- The first row is the line, and the others follow it.
record Split (t : Text) (ls : List (List ℕ)) (u : Text) : Type 0 where
  pub more : List (List ℕ)
  pub is : ls ≡ head_line t ∷ more
  pub follow : block 0 (after t) ≡ ends more u

ends_some : (t : Text) (b : ℕ) (l : List ℕ) (ls : List (List ℕ)) (u : Text) → head_line t ≡ b ∷ l → block 0 t ≡ ends ls u → Split t ls u
unfolding block
ends_some (rest r) b l ls u e h = let z : ◌≡◌ {A = ℕ} 0 1 = cc in absurd (omega arith)
ends_some (line [] t) b l ls u e h = let z : ◌≡◌ {A = ℕ} 0 (suc (length l)) = ap length e in absurd (omega (arith, z))
ends_some (line (c ∷ m) t) b l ls u e h = go (block 0 t) refl h
  where
    go : (k : Block) → block 0 t ≡ k → more (c ∷ m) k ≡ ends ls u → Split (line (c ∷ m) t) ls u
    go (stops n) q h = let z : ◌≡◌ {A = ℕ} 0 1 = cc in absurd (omega arith)
    go (ends ms v) q h = record { more = ms; is = cc; follow = cc }

-- The names ls, and then an empty line, stand from a place on.
pub record NameLines (s : List ℕ) (at : ℕ) (ls : List (List ℕ)) : Type 0 where
  pub behind : Text
  pub follow : block 0 (lines (drop at s)) ≡ ends ls behind

module _ {s : List ℕ} {at : ℕ} {ls : List (List ℕ)} (n : NameLines s at ls) where
  pub names-line : is_line (lines (drop at s)) ≡ true
  names-line = ends-line _ _ _ n.follow

  pub names-inside : at < length s
  names-inside = line-inside s at names-line

  pub names-empty : line_at s at ≡ [] → ls ≡ []
  names-empty e = ends-none _ _ _ n.follow e

  pub line-none : get_or s at 0 ≡ newline → line_at s at ≡ []
  line-none e = ap head_line (text-newline s at names-inside e)

  pub names-end : get_or s at 0 ≡ newline → ls ≡ []
  names-end e = names-empty (line-none e)

  module _ (ne : get_or s at 0 ≡ newline → ⊥) where
    split : Split (lines (drop at s)) ls n.behind
    split = ends_some _ _ _ _ _ (passes-byte s at names-inside ne).first n.follow

    -- The names behind the first, which is the line at the place.
    pub others : List (List ℕ)
    others = split.more

    pub names-first : ls ≡ line_at s at ∷ others
    unfolding others
    names-first = split.is

    pub names-next : (next : ℕ) → after (lines (drop at s)) ≡ lines (drop next s) → NameLines s next others
    unfolding others
    names-next next e = record { behind = n.behind; follow = rw e at split.follow }

-- The names of a sheet that has the form stand behind the five bytes of the heading.
pub record Headed (s : List ℕ) : Type 0 where
  pub inside : 4 < length s
  pub ends : get_or s 4 0 ≡ newline
  pub names : NameLines s 5 (sheet_names s)

pub headed : (s : List ℕ) → form_fault s ≡ 0 → Headed s
unfolding form_fault section_rows sections bytes
headed s z =
    let f = starts _ _ s z in
    let b = behind-heading _ s f.heading in
    record { inside = b.inside; ends = b.ends; names = record { behind = f.behind; follow = rw b.is at f.follow } }
