-- Demand 2: the questions put to an input of a call on a sheet, as a list in their order.
-- Beside: document 01, Questions.
use Rattle.std.specs.Prelude.{Bool, true, false, cond, ◌&&◌, List, [], ◌∷◌, ℕ, eqb, leb, length, ◌≡◌}
use Rattle.base.specs.Limits as limits
use Rattle.base.specs.Limits.{Limits}
use Rattle.base.specs.Refusals as refusals
use Rattle.sheet.specs.Questions.{short_enough, form_fault, names_fault, counts_fault}
use Rattle.sheet.specs.Verdict.{fields_fault}
use Rattle.sheet.specs.Sheet.{sheet_in}
use Rattle.definition.specs.States.{Fault, sound, undefined, used_before, lengths, index_variable}
use Rattle.definition.specs.RustWay.{analyze_query_snippet}
use Rattle.answer.specs.Text.{answer_text}
use Rattle.answer.specs.Call.{Result, refused, answered, Left}
use Rattle.base.specs.Lists.{all}
use Rattle.nokchbem.specs.Calls.{left_number}

-- Is the answer yes? And the refusal where it is no.
pub record Question : Type 0 where
  pub yes : Bool
  pub number : ℕ
  pub line : ℕ
  pub col : ℕ

abbrev pub ask : Bool → ℕ → ℕ → ℕ → Question
ask b n l c = record { yes = b; number = n; line = l; col = c }

-- Does the walk finish without an error?
abbrev pub finishes : Fault → Question
finishes sound = ask true 0 0 0
finishes (undefined l c) = ask false refusals.undefined_variable l c
finishes (used_before l c) = ask false refusals.used_before_definition l c
finishes (lengths l c) = ask false refusals.lengths_differ l c
finishes index_variable = ask false refusals.index_in_pattern 0 0

-- What the first question says whose answer is no; if there is none, the text.
unfoldable pub first_no : List Question → List ℕ → Result
first_no [] text = answered text
first_no (q ∷ questions) text = cond q.yes (first_no questions text) (refused q.number q.line q.col)

-- The text of the answer to the sheet s, where the walk finishes.
abbrev pub text : List ℕ → List ℕ
text s = answer_text (length (sheet_in s).queries) (analyze_query_snippet (sheet_in s)).schedules

-- The sheet s, with the call's limits, and so many entries of tables, words of work and bytes for the answer.
module _ (lim : Limits) (s : List ℕ) (tables work room : ℕ) where
  abbrev pub questions : List Question
  questions =
      ask (leb limits.table_entries tables && leb lim.work work) refusals.no_room 0 0
      ∷ ask (short_enough s) refusals.too_long 0 0
      ∷ ask (eqb (form_fault s) 0) refusals.bad_form (form_fault s) 0
      ∷ ask (eqb (names_fault s) 0) refusals.bad_name (names_fault s) 0
      ∷ ask (eqb (counts_fault lim s) 0) refusals.bad_count (counts_fault lim s) 0
      ∷ ask (eqb (fields_fault s) 0) refusals.bad_field (fields_fault s) 0
      ∷ finishes (analyze_query_snippet (sheet_in s)).fault
      ∷ ask (leb (length (text s)) room) refusals.text_too_long 0 0
      ∷ []

-- ---- `nokchbem_analyze`, and the printing program's call

-- All that the call returns and leaves.
pub record Equals (l : Left) (r : ℕ) (t w a : List ℕ) : Type 0 where
  pub number : r ≡ left_number l
  pub tables : t ≡ l.tables
  pub work : w ≡ l.work
  pub answer : a ≡ l.answer

-- Is every answer yes?
abbrev pub all_yes : List Question → Bool
all_yes l = all (λ (q : Question). q.yes) l
