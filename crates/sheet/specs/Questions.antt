-- Questions 2 to 5, put to the bytes of a sheet, each with its first line at fault.
-- Beside: document 01, Questions; lexer.rs for the order of names.
use Rattle.std.specs.Prelude.{Bool, true, false, cond, ◌&&◌, ◌||◌, List, [], ◌∷◌, map, ℕ, suc, ◌+◌, eqb, leb, ltb, length, get_or}
use Rattle.base.specs.Limits as limits
use Rattle.base.specs.Lists.{all}
use Rattle.sheet.specs.Text.{digit}
use Rattle.sheet.specs.Form.{same, names_at, queries_at, line_of, sections, line_or, form, fault_of, rows_in}
use Rattle.base.specs.Limits.{Limits}

-- ---- question 4: names

-- A letter, or `_`.
abbrev pub letter : ℕ → Bool
letter b = (leb 65 b && leb b 90) || ((leb 97 b && leb b 122) || eqb b 95)

abbrev pub letter_or_digit : ℕ → Bool
letter_or_digit b = letter b || digit b

abbrev pub is_name : List ℕ → Bool
is_name [] = false
is_name (b ∷ l) = letter b && (all letter_or_digit l && leb (length (b ∷ l)) limits.name_bytes)

-- Does a text stand before another, in the order of bytes?
unfoldable pub before : List ℕ → List ℕ → Bool
before l [] = false
before [] (c ∷ m) = true
before (b ∷ l) (c ∷ m) = ltb b c || (eqb b c && before l m)

-- The first row at fault, or 0, of names from row n on, behind the name p.
unfoldable pub name_fault : ℕ → List ℕ → List (List ℕ) → ℕ
name_fault n p [] = 0
name_fault n p (l ∷ ls) = cond (is_name l && before p l) (name_fault (suc n) l ls) n

-- The row of the name w among names from row n on, or 0.
unfoldable pub name_row : ℕ → List ℕ → List (List ℕ) → ℕ
name_row n w [] = 0
name_row n w (l ∷ ls) = cond (same l w) n (name_row (suc n) w ls)

-- ---- question 5: counts

-- The most rows of each section.
abbrev pub most_rows : Limits → List ℕ
most_rows lim = lim.names ∷ limits.most_built_ins ∷ limits.most_expressions ∷ limits.most_statements ∷ limits.most_queries ∷ []

-- The sections have these numbers of rows.
module _ (counts : List ℕ) where
  -- The line of the first row over the most of its section, or 0, of sections from place k on.
  unfoldable pub over_line : ℕ → List ℕ → ℕ
  over_line k [] = 0
  over_line k (most ∷ more) = cond (ltb most (get_or counts k 0)) (line_of counts k (most + 1)) (over_line (suc k) more)

  -- The line of the last section's heading where it has no row, or 0.
  unfoldable pub no_query_line : ℕ
  no_query_line = cond (eqb (get_or counts queries_at 0) 0) (line_of counts queries_at 0) 0

-- A section with too many rows comes first.
unfoldable pub count_fault : Limits → List ℕ → ℕ
count_fault lim counts =
    let over = over_line counts names_at (most_rows lim) in
    cond (eqb over 0) (no_query_line counts) over

-- ---- the questions, put to the bytes

module _ (s : List ℕ) where
  -- Question 2: is the sheet short enough? It has no line.
  abbrev pub short_enough : Bool
  short_enough = leb (length s) limits.sheet_bytes

  -- Question 3: the first line that has not the form.
  unfoldable pub form_fault : ℕ
  form_fault = fault_of (form sections s)

  -- The rows of each section, as lines, where the sheet has the form.
  unfoldable pub section_rows : List (List (List ℕ))
  section_rows = rows_in (form sections s)

  -- How many rows each section has.
  abbrev pub row_counts : List ℕ
  row_counts = map length section_rows

  -- The names, where the sheet has the form.
  abbrev pub sheet_names : List (List ℕ)
  sheet_names = get_or section_rows names_at []

  -- Question 4: the first name at fault.
  unfoldable pub names_fault : ℕ
  names_fault = line_or row_counts names_at (name_fault 1 [] sheet_names) 0

  -- The row of a name, or 0 where it is none of the sheet's.
  unfoldable pub row_of_name : List ℕ → ℕ
  row_of_name w = name_row 1 w sheet_names

-- Question 5: the first row over the most of its section, or the heading of no query.
unfoldable pub counts_fault : Limits → List ℕ → ℕ
counts_fault lim s = count_fault lim (row_counts s)
