-- The specification's sheet, which passes questions 2 to 5, and broken ones, each with the question that it fails and the line at fault.
use mathlib.Core.Path.{◌≡◌, refl}
use mathlib.Core.Bool.{Bool, true, cond, not, ◌&&◌}
use mathlib.Core.List.{List, [], ◌∷◌}
use Prim.Native.Nat.{ℕ}
use Prim.Native.String.{String, ◌++◌}
use lib.Dec.{eqb}
use Rattle.base.specs.Limits.{Limits, library, printing}
use Rattle.base.specs.Lists.{all}
use Rattle.sheet.specs.Text.{bytes, lines, words, value, is_number, are_numbers, values}
use Rattle.sheet.specs.Form.{sections, exprs_at, line_of, block, whole_from, form, fault_of, rows_in}
use Rattle.sheet.specs.Questions.{before, name_fault, name_row, over_line, no_query_line, count_fault, short_enough, form_fault, section_rows, names_fault, row_of_name, counts_fault}

-- A text, the question that it fails, or 0, and the line.
pub record FormTrial : Type 0 where
  pub text : String
  pub number : ℕ
  pub line : ℕ

-- Does the text fail that question first, at that line?
abbrev fails : List ℕ → ℕ → ℕ → Bool
fails s number line =
    cond (not (short_enough s)) (eqb number 2 && eqb line 0)
    (cond (not (eqb (form_fault s) 0)) (eqb number 3 && eqb line (form_fault s))
    (cond (not (eqb (names_fault s) 0)) (eqb number 4 && eqb line (names_fault s))
    (cond (not (eqb (counts_fault library s) 0)) (eqb number 5 && eqb line (counts_fault library s)) (eqb number 0 && eqb line 0))))

abbrev pub form_passes : FormTrial → Bool
form_passes t = fails (bytes t.text) t.number t.line

abbrev trial : String → ℕ → ℕ → FormTrial
trial s n l = record { text = s; number = n; line = l }

-- The parts of the specification's sheet.
abbrev names : String
names = "name\na\ninput\nx\ny\n\n"

abbrev built_ins : String
built_ins = "arity first second third\n\n"

abbrev kinds : String
kinds = "kind name line col first second third next\n"

abbrev first_rows : String
first_rows = "20 0 1 1 2 3 0 0\n6 4 1 1 0 0 0 0\n6 3 1 5 0 0 0 0\n20 0 2 1 5 6 0 0\n6 3 2 1 0 0 0 0\n15 1 2 5 7 0 0 0\n"

abbrev expressions : String
expressions = kinds ++ first_rows ++ "6 2 2 5 0 0 0 0\n\n"

abbrev statements : String
statements = "form first second third query with next\n3 1 0 0 0 0 2\n3 4 0 0 0 0 0\n\n"

abbrev queries : String
queries = "statement\n1\n\n"

abbrev whole : String
whole = names ++ built_ins ++ expressions ++ statements ++ queries

-- The sheet with other names, another last expression, other queries.
abbrev named : String → String
named part = part ++ built_ins ++ expressions ++ statements ++ queries

abbrev last_row : String → String
last_row row = names ++ built_ins ++ kinds ++ first_rows ++ row ++ "\n\n" ++ statements ++ queries

abbrev queried : String → String
queried part = names ++ built_ins ++ expressions ++ statements ++ part

-- Sixteen queries.
abbrev sixteen : String
sixteen = "1\n1\n1\n1\n1\n1\n1\n1\n1\n1\n1\n1\n1\n1\n1\n1\n"

abbrev pub form_trials : List FormTrial
form_trials =
    trial whole 0 0
    ∷ trial (last_row "6 2 65535 5 0 0 0 0") 0 0
    -- no line at all; no last empty line; bytes, or a line, behind it
    ∷ trial "" 3 1
    ∷ trial (queried "statement\n1\n") 3 24
    ∷ trial (queried "statement\n1\n\nx") 3 25
    ∷ trial (queried "statement\n1\n\n\n") 3 25
    -- rows: a CR, a 0 that leads, a value too large, two spaces, a space at the end, a value too few
    ∷ trial (last_row "6 2 2 5 0 0 0 0\r") 3 16
    ∷ trial (last_row "6 02 2 5 0 0 0 0") 3 16
    ∷ trial (last_row "6 2 65536 5 0 0 0 0") 3 16
    ∷ trial (last_row "6 2  2 5 0 0 0 0") 3 16
    ∷ trial (last_row "6 2 2 5 0 0 0 0 ") 3 16
    ∷ trial (last_row "6 2 2 5 0 0 0") 3 16
    -- no empty line behind the names: the next heading is taken for a name
    ∷ trial (named "name\na\ninput\nx\ny\n") 3 8
    -- names: not ascending, twice, a digit first, a CR, 33 bytes; 32 will do
    ∷ trial (named "name\na\nx\ninput\ny\n\n") 4 4
    ∷ trial (named "name\na\na\nx\ny\n\n") 4 3
    ∷ trial (named "name\n1\ninput\nx\ny\n\n") 4 2
    ∷ trial (named "name\na\ninput\r\nx\ny\n\n") 4 3
    ∷ trial (named "name\na\ninput\nx\nyyyyyyyyyyyyyyyyyyyyyyyyyyyyyyyyy\n\n") 4 5
    ∷ trial (named "name\na\ninput\nx\nyyyyyyyyyyyyyyyyyyyyyyyyyyyyyyyy\n\n") 0 0
    -- no query, and one too many
    ∷ trial (queried "statement\n\n") 5 22
    ∷ trial (queried ("statement\n" ++ sixteen ++ sixteen ++ "1\n\n")) 5 55
    ∷ trial (queried ("statement\n" ++ sixteen ++ sixteen ++ "\n")) 0 0
    ∷ []

-- All of them pass.
pub form_trials-pass : all form_passes form_trials ≡ true
unfolding bytes lines words value is_number are_numbers values sections block whole_from form fault_of rows_in before name_fault
    line_of over_line no_query_line count_fault form_fault section_rows names_fault counts_fault
form_trials-pass = refl

-- ---- question 5 at each limit, by the counts of rows alone

-- So many names, built-ins, expressions, statements and queries, and the line at fault.
pub record Counted : Type 0 where
  pub limits : Limits
  pub counts : List ℕ
  pub line : ℕ

abbrev counted : Limits → ℕ → ℕ → ℕ → ℕ → ℕ → ℕ → Counted
counted lim a b c d e l = record { limits = lim; counts = a ∷ b ∷ c ∷ d ∷ e ∷ []; line = l }

abbrev pub edges : List Counted
edges =
    counted library 511 64 512 128 32 0
    ∷ counted library 512 64 512 128 32 513
    ∷ counted library 511 65 512 128 32 579
    ∷ counted library 511 64 513 128 32 1093
    ∷ counted library 511 64 512 129 32 1223
    ∷ counted library 511 64 512 128 33 1257
    ∷ counted library 511 64 512 128 0 1224
    ∷ counted printing 127 64 512 128 32 0
    ∷ counted printing 128 64 512 128 32 129
    ∷ counted printing 127 64 512 128 33 873
    -- the first section over its limit counts
    ∷ counted printing 128 65 513 129 33 129
    ∷ counted library 512 65 513 129 33 513
    ∷ counted library 128 65 513 129 33 196
    ∷ []

pub edges-pass : all (λ c. eqb (count_fault c.limits c.counts) c.line) edges ≡ true
unfolding line_of over_line no_query_line count_fault
edges-pass = refl

-- In the specification's sheet `input` is the second name and `_` is none, and the second expression stands in line 11.
input_is_second : row_of_name (bytes whole) (bytes "input") ≡ 2
unfolding bytes lines words value is_number are_numbers sections block whole_from form rows_in name_row section_rows row_of_name
input_is_second = refl

blank_is_none : row_of_name (bytes whole) (bytes "_") ≡ 0
unfolding bytes lines words value is_number are_numbers sections block whole_from form rows_in name_row section_rows row_of_name
blank_is_none = refl

second-expression : line_of (4 ∷ 0 ∷ 7 ∷ 2 ∷ 1 ∷ []) exprs_at 2 ≡ 11
unfolding line_of
second-expression = refl
