-- Question 3: the five sections of a sheet, the lines of their rows, and the first line that has not the form.
-- Beside: document 01, Sheet and Questions.
use Rattle.std.specs.Prelude.{cond, Bool, true, false, ◌&&◌, List, [], ◌∷◌, ℕ, zero, suc, ◌+◌, eqb, length}
use Rattle.sheet.specs.Text.{bytes, Text, rest, line, lines, words, are_numbers}

-- ---- sections

-- A section: its line of names, and the values of a row. Width 0: a row is any line that is not empty.
pub record Section : Type 0 where
  pub heading : List ℕ
  pub width : ℕ

unfoldable pub sections : List Section
sections =
    record { heading = bytes "name"; width = 0 }
    ∷ record { heading = bytes "arity first second third"; width = 4 }
    ∷ record { heading = bytes "kind name line col first second third next"; width = 8 }
    ∷ record { heading = bytes "form first second third query with next"; width = 7 }
    ∷ record { heading = bytes "statement"; width = 1 }
    ∷ []

-- ---- the place of each section

abbrev pub names_at : ℕ
names_at = 0

abbrev pub built_ins_at : ℕ
built_ins_at = 1

abbrev pub exprs_at : ℕ
exprs_at = 2

abbrev pub statements_at : ℕ
statements_at = 3

abbrev pub queries_at : ℕ
queries_at = 4

-- ---- lines

-- The line of row r of the section at place k, and of its heading where r is 0, if the sections have these numbers of rows. Each section is its
-- heading, its rows and an empty line.
unfoldable pub line_of : List ℕ → ℕ → ℕ → ℕ
line_of counts zero r = r + 1
line_of [] (suc k) r = 2 + line_of [] k r
line_of (n ∷ counts) (suc k) r = n + 2 + line_of counts k r

-- The line of row r, or another where there is no such row.
abbrev pub line_or : List ℕ → ℕ → ℕ → ℕ → ℕ
line_or counts k r other = cond (eqb r 0) other (line_of counts k r)

-- ---- the form

-- Is a line that is not empty a row of k values? Of a section with width 0 each is a row.
abbrev pub is_row : ℕ → List ℕ → Bool
is_row zero l = true
is_row (suc k) l = are_numbers (suc k) (words l)

-- The rows up to an empty line: so many and then a fault; or the rows, and the text behind the empty line.
pub data Block : Type 0 where
  stops : ℕ → Block
  ends : List (List ℕ) → Text → Block

-- A row in front.
abbrev pub more : List ℕ → Block → Block
more l (stops n) = stops (suc n)
more l (ends ls t) = ends (l ∷ ls) t

unfoldable pub block : ℕ → Text → Block
block k (rest r) = stops 0
block k (line [] t) = ends [] t
block k (line (b ∷ l) t) = cond (is_row k (b ∷ l)) (more (b ∷ l) (block k t)) (stops 0)

-- The whole: the first line at fault; or the rows of each section, as lines.
pub data Whole : Type 0 where
  faulty : ℕ → Whole
  formed : List (List (List ℕ)) → Whole

-- A section's rows in front.
abbrev pub also : List (List ℕ) → Whole → Whole
also ls (faulty n) = faulty n
also ls (formed rs) = formed (ls ∷ rs)

-- A section whose heading is line n: its rows, and what is said of the text behind its empty line.
abbrev pub filled : ℕ → (ℕ → Text → Whole) → Block → Whole
filled n f (stops k) = faulty (n + 1 + k)
filled n f (ends ls t) = also ls (f (n + length ls + 2) t)

abbrev pub same : List ℕ → List ℕ → Bool
same [] [] = true
same [] (c ∷ h) = false
same (b ∷ l) [] = false
same (b ∷ l) (c ∷ h) = eqb b c && same l h

-- The sections, one behind the other and nothing behind the last, from line n on. A missing line counts as the one after the last.
unfoldable pub whole_from : List Section → ℕ → Text → Whole
whole_from [] n (rest []) = formed []
whole_from [] n (rest (b ∷ r)) = faulty n
whole_from [] n (line l t) = faulty n
whole_from (s ∷ ss) n (rest r) = faulty n
whole_from (s ∷ ss) n (line l t) = cond (same l s.heading) (filled n (whole_from ss) (block s.width t)) (faulty n)

unfoldable pub form : List Section → List ℕ → Whole
form ss s = whole_from ss 1 (lines s)

-- The first line at fault, or 0.
unfoldable pub fault_of : Whole → ℕ
fault_of (faulty n) = n
fault_of (formed rs) = 0

-- The rows of each section; none where the form is at fault.
unfoldable pub rows_in : Whole → List (List (List ℕ))
rows_in (faulty n) = []
rows_in (formed rs) = rs
