-- Laws of `FormLaws`.
use mathlib.Core.Path.{◌≡◌, refl, sym, ap, ◌∙◌}
use mathlib.Core.Bool.{Bool, true, false, cond}
use mathlib.Core.List.{List, [], ◌∷◌}
use mathlib.Core.Logic.{◌⊎◌, inl, inr}
use Prim.Native.Nat.{ℕ, suc, ◌+◌, ◌<◌}
use native.Mathlib.Omega.{arith}
use lib.Dec.{eqb}
use lib.ListN.{length, get_or, drop}
use Rattle.base.proofs.Laws.Truth.{bool_cases, not-both, and_left, and_right}
use Rattle.base.specs.Lists.{all}
use Rattle.sheet.specs.Text.{newline, Text, rest, line, lines}
use Rattle.sheet.specs.Inner.Lines.{head_line, after, is_line}
use Rattle.sheet.proofs.Laws.LineLaws.{behind-line}
use Rattle.sheet.specs.Form.{Section, is_row, Block, stops, ends, more, block, Whole, faulty, formed, also, filled, same, whole_from, fault_of}
use Rattle.sheet.specs.Inner.Headings.{has_line}

same_length : (l h : List ℕ) → same l h ≡ true → length l ≡ length h
same_length [] [] e = refl
same_length [] (c ∷ h) e = absurd (not-both e refl)
same_length (b ∷ l) [] e = absurd (not-both e refl)
same_length (b ∷ l) (c ∷ h) e = ap suc (same_length l h (and_right (eqb b c) _ e))

-- Where the heading is, it ends at a newline, and the rest of the text starts behind that.
pub record BehindHeading (h s : List ℕ) : Type 0 where
  pub inside : length h < length s
  pub ends : get_or s (length h) 0 ≡ newline
  pub is : after (lines s) ≡ lines (drop (suc (length h)) s)

pub behind-heading : (h s : List ℕ) → has_line h (lines s) ≡ true → BehindHeading h s
unfolding has_line
behind-heading h s e =
    let b = behind-line s (and_left _ _ e) in
    let n = same_length (head_line (lines s)) h (and_right (is_line (lines s)) _ e) in
    record { inside = omega (arith, b.inside); ends = rw n at b.ends; is = rw n at b.is }

pub sheet-none : (c : Section) (ss : List Section) (n : ℕ) (t : Text) → has_line c.heading t ≡ false → whole_from (c ∷ ss) n t ≡ faulty n
unfolding whole_from has_line
sheet-none c ss n (rest r) h = refl
sheet-none c ss n (line l t) h = rw h

pub sheet-some : (c : Section) (ss : List Section) (n : ℕ) (t : Text) → has_line c.heading t ≡ true
    → whole_from (c ∷ ss) n t ≡ filled n (whole_from ss) (block c.width (after t))
unfolding whole_from has_line
sheet-some c ss n (rest r) h = absurd (not-both h refl)
sheet-some c ss n (line l t) h = rw h

-- ---- a sheet that has the form

pub also-fault : (ls : List (List ℕ)) (t : Whole) → fault_of (also ls t) ≡ fault_of t
unfolding fault_of
also-fault ls (faulty n) = refl
also-fault ls (formed rs) = refl

pub block-rows : (k : ℕ) (t : Text) (ls : List (List ℕ)) (u : Text) → block k t ≡ ends ls u → all (is_row k) ls ≡ true
unfolding block
block-rows k (rest r) ls u h = let z : ◌≡◌ {A = ℕ} 0 1 = cc in absurd (omega arith)
block-rows k (line [] t) ls u h = let e : ls ≡ [] = cc in rw e
block-rows k (line (b ∷ l) t) ls u h = go (bool_cases (is_row k (b ∷ l))) (block k t) refl h (λ ms e. block-rows k t ms u e)
  where
    go : (is_row k (b ∷ l) ≡ true) ⊎ (is_row k (b ∷ l) ≡ false) → (c : Block) → block k t ≡ c
        → cond (is_row k (b ∷ l)) (more (b ∷ l) c) (stops 0) ≡ ends ls u
        → ((ms : List (List ℕ)) → block k t ≡ ends ms u → all (is_row k) ms ≡ true) → all (is_row k) ls ≡ true
    go (inr n) c q h ih = let e = rw n at h in let z : ◌≡◌ {A = ℕ} 0 1 = cc in absurd (omega arith)
    go (inl y) (stops n) q h ih = let e = rw y at h in let z : ◌≡◌ {A = ℕ} 0 1 = cc in absurd (omega arith)
    go (inl y) (ends ms v) q h ih =
        let e = rw y at h in
        let rows : ls ≡ (b ∷ l) ∷ ms = cc in
        rw (rows, y) (ih ms cc)

-- The rows of each section have its width.
pub data Shaped : List Section → List (List (List ℕ)) → Type 0 where
  none : Shaped [] []
  next : {s : Section} {ss : List Section} {ls : List (List ℕ)} {rs : List (List (List ℕ))}
      → all (is_row s.width) ls ≡ true → Shaped ss rs → Shaped (s ∷ ss) (ls ∷ rs)

-- Where no line is at fault, there are rows.
pub record Formed (ss : List Section) (t : Whole) : Type 0 where
  pub rows : List (List (List ℕ))
  pub is : t ≡ formed rows
  pub shaped : Shaped ss rows

pub sheet-formed : (ss : List Section) (n : ℕ) (t : Text) → 0 < n → fault_of (whole_from ss n t) ≡ 0 → Formed ss (whole_from ss n t)
unfolding whole_from fault_of
sheet-formed [] n (rest []) p z = record { rows = []; is = refl; shaped = none }
sheet-formed [] n (rest (b ∷ r)) p z = absurd (omega arith)
sheet-formed [] n (line l t) p z = absurd (omega arith)
sheet-formed (s ∷ ss) n (rest r) p z = absurd (omega arith)
sheet-formed (s ∷ ss) n (line l t) p z = go (same l s.heading) (block s.width t) refl z (λ m u q h. sheet-formed ss m u q h)
  where
    go : (b : Bool) (c : Block) → block s.width t ≡ c → fault_of (cond b (filled n (whole_from ss) c) (faulty n)) ≡ 0
        → ((m : ℕ) (u : Text) → 0 < m → fault_of (whole_from ss m u) ≡ 0 → Formed ss (whole_from ss m u))
        → Formed (s ∷ ss) (cond b (filled n (whole_from ss) c) (faulty n))
    go false c q z ih = absurd (omega arith)
    go true (stops k) q z ih = absurd (omega arith)
    go true (ends ls u) q z ih =
        let m = n + length ls + 2 in
        let r = ih m u (omega arith) (sym (also-fault ls (whole_from ss m u)) ∙ z) in
        record { rows = ls ∷ r.rows; is = ap (also ls) r.is; shaped = next (block-rows s.width t ls u q) r.shaped }
