-- A line at fault by question 3 or 4 is a line of the sheet, or the one after the last.
use mathlib.Core.Path.{◌≡◌, refl}
use mathlib.Core.Bool.{Bool, true, false, cond, ◌&&◌}
use mathlib.Core.List.{List, [], ◌∷◌}
use mathlib.Core.Logic.{◌⊎◌, inl, inr}
use Prim.Native.Nat.{ℕ, suc, ◌+◌, ◌≤◌}
use native.Mathlib.Omega.{arith}
use lib.Dec.{eqb}
use lib.ListN.{length, get_or}
use Rattle.base.proofs.Laws.Truth.{bool_cases}
use Rattle.sheet.specs.Text.{newline, Text, rest, line, push, add, lines}
use Rattle.sheet.specs.Form.{Section, sections, names_at, line_of, line_or, Block, stops, ends, more, is_row, block, Whole, faulty, formed, also, filled, same, whole_from, form, fault_of, rows_in}
use Rattle.sheet.specs.Questions.{is_name, before, name_fault, form_fault, names_fault, sheet_names, section_rows, row_counts}
use Rattle.sheet.proofs.Laws.FormLaws.{also-fault}

-- ---- how many lines a text has

abbrev height : Text → ℕ
height (rest r) = 0
height (line l t) = suc (height t)

height-push : (b : ℕ) (t : Text) → height (push b t) ≡ height t
height-push b (rest r) = refl
height-push b (line l t) = refl

-- Each takes a byte.
height-lines : (s : List ℕ) → height (lines s) ≤ length s
unfolding lines
height-lines [] = omega arith
height-lines (b ∷ s) = go (bool_cases (eqb b newline)) (height-lines s)
  where
    go : (eqb b newline ≡ true) ⊎ (eqb b newline ≡ false) → height (lines s) ≤ length s → height (add b (lines s)) ≤ suc (length s)
    go (inl p) h = rw p (omega arith)
    go (inr p) h = rw p (omega (arith, height-push b (lines s)))

-- ---- question 3

-- What a block takes of n lines: a fault is in them, or the rows and the empty line are.
abbrev Taken : ℕ → Block → Type 0
Taken n (stops k) = k ≤ n
Taken n (ends ls t) = length ls + 1 + height t ≤ n

taken_more : (n : ℕ) (l : List ℕ) (b : Block) → Taken n b → Taken (suc n) (more l b)
taken_more n l (stops k) h = omega arith
taken_more n l (ends ls t) h = omega arith

block-taken : (k : ℕ) (t : Text) → Taken (height t) (block k t)
unfolding block
block-taken k (rest r) = omega arith
block-taken k (line [] t) = omega arith
block-taken k (line (b ∷ l) t) = go (bool_cases (is_row k (b ∷ l))) (taken_more (height t) (b ∷ l) (block k t) (block-taken k t))
  where
    go : (is_row k (b ∷ l) ≡ true) ⊎ (is_row k (b ∷ l) ≡ false) → Taken (suc (height t)) (more (b ∷ l) (block k t))
        → Taken (suc (height t)) (cond (is_row k (b ∷ l)) (more (b ∷ l) (block k t)) (stops 0))
    go (inl p) h = rw p h
    go (inr p) h = rw p (omega arith)

filled-low : (n m : ℕ) (f : ℕ → Text → Whole) (b : Block) → Taken m b
    → ((k : ℕ) (t : Text) → fault_of (f k t) ≤ k + height t) → fault_of (filled n f b) ≤ n + 1 + m
unfolding fault_of
filled-low n m f (stops k) taken low = omega arith
filled-low n m f (ends ls t) taken low = omega (arith, also-fault ls (f (n + length ls + 2) t), low (n + length ls + 2) t)

sheet-low : (ss : List Section) (n : ℕ) (t : Text) → fault_of (whole_from ss n t) ≤ n + height t
unfolding whole_from fault_of
sheet-low [] n (rest []) = omega arith
sheet-low [] n (rest (b ∷ r)) = omega arith
sheet-low [] n (line l t) = omega arith
sheet-low (s ∷ ss) n (rest r) = omega arith
sheet-low (s ∷ ss) n (line l t) = go (bool_cases (same l s.heading)) (filled-low n (height t) (whole_from ss) (block s.width t) (block-taken s.width t) (sheet-low ss))
  where
    go : (same l s.heading ≡ true) ⊎ (same l s.heading ≡ false)
        → fault_of (filled n (whole_from ss) (block s.width t)) ≤ n + 1 + height t
        → fault_of (cond (same l s.heading) (filled n (whole_from ss) (block s.width t)) (faulty n)) ≤ n + suc (height t)
    go (inl p) h = rw p (omega arith)
    go (inr p) h = rw p (omega arith)

pub form-low : (s : List ℕ) → form_fault s ≤ 1 + length s
unfolding form_fault form
form-low s = omega (arith, sheet-low sections 1 (lines s), height-lines s)

-- ---- question 4

names-low : (n : ℕ) (p : List ℕ) (ls : List (List ℕ)) → name_fault n p ls ≤ n + length ls
unfolding name_fault
names-low n p [] = omega arith
names-low n p (l ∷ ls) = go (bool_cases (is_name l && before p l)) (names-low (suc n) l ls)
  where
    go : ((is_name l && before p l) ≡ true) ⊎ ((is_name l && before p l) ≡ false) → name_fault (suc n) l ls ≤ suc n + length ls
        → cond (is_name l && before p l) (name_fault (suc n) l ls) n ≤ n + suc (length ls)
    go (inl q) h = rw q (omega arith)
    go (inr q) h = rw q (omega arith)

-- The first section's rows are lines of the sheet.
first-also : (ls : List (List ℕ)) (x : Whole) → length (get_or (rows_in (also ls x)) 0 []) ≤ length ls
unfolding rows_in
first-also ls (faulty n) = omega arith
first-also ls (formed rs) = omega arith

first-filled : (n m : ℕ) (f : ℕ → Text → Whole) (b : Block) → Taken m b → length (get_or (rows_in (filled n f b)) 0 []) ≤ m
unfolding rows_in
first-filled n m f (stops k) taken = omega arith
first-filled n m f (ends ls t) taken = omega (arith, first-also ls (f (n + length ls + 2) t))

first_rows_lem : (ss : List Section) (n : ℕ) (t : Text) → length (get_or (rows_in (whole_from ss n t)) 0 []) ≤ height t
unfolding whole_from rows_in
first_rows_lem [] n (rest []) = omega arith
first_rows_lem [] n (rest (b ∷ r)) = omega arith
first_rows_lem [] n (line l t) = omega arith
first_rows_lem (s ∷ ss) n (rest r) = omega arith
first_rows_lem (s ∷ ss) n (line l t) =
    go (bool_cases (same l s.heading)) (first-filled n (height t) (whole_from ss) (block s.width t) (block-taken s.width t))
  where
    go : (same l s.heading ≡ true) ⊎ (same l s.heading ≡ false)
        → length (get_or (rows_in (filled n (whole_from ss) (block s.width t))) 0 []) ≤ height t
        → length (get_or (rows_in (cond (same l s.heading) (filled n (whole_from ss) (block s.width t)) (faulty n))) 0 [])
        ≤ suc (height t)
    go (inl p) h = rw p (omega arith)
    go (inr p) h = rw p (omega arith)

name_line-low : (counts : List ℕ) (r : ℕ) → line_or counts names_at r 0 ≤ r + 1
unfolding line_of
name_line-low counts r = go (eqb r 0)
  where
    go : (b : Bool) → cond b 0 (r + 1) ≤ r + 1
    go true = omega arith
    go false = omega arith

pub names_fault-low : (s : List ℕ) → names_fault s ≤ 2 + length s
unfolding names_fault section_rows form
names_fault-low s =
    let r = name_fault 1 [] (sheet_names s) in
    omega (arith, name_line-low (row_counts s) r, names-low 1 [] (sheet_names s), first_rows_lem sections 1 (lines s), height-lines s)
