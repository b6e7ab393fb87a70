-- The whole call: what it comes to and what it leaves, as functions of the sheet's bytes and of how long the lent buffers are.
-- Beside: document 01, Questions and Answer.
use Rattle.std.specs.Prelude.{cond, List, ◌++◌, ℕ, ◌-◌, leb, length, replicate, Ok, Err}
use Rattle.base.specs.Limits.{Limits}
use Rattle.base.specs.Refusals as refusals
use Rattle.sheet.specs.Sheet.{Sheet, sheet_in}
use Rattle.sheet.specs.Verdict as questions
use Rattle.sheet.specs.Verdict.{Outcome}
use Rattle.definition.specs.States.{Fault, sound, undefined, used_before, lengths, index_variable, Run}
use Rattle.definition.specs.RustWay.{analyze_query_snippet}
use Rattle.answer.specs.Text.{answer_text, refusal_text}

-- What a sheet comes to: a refusal at a position, or a text.
pub data Result : Type 0 where
  refused : (number line col : ℕ) → Result
  answered : (text : List ℕ) → Result

-- Question 8: does the text fit the lent bytes?
abbrev pub fitting : ℕ → List ℕ → Result
fitting room text = cond (leb (length text) room) (answered text) (refused refusals.text_too_long 0 0)

-- Question 7: does the analysis finish without a fault? The text is about n queries.
abbrev pub finished : ℕ → ℕ → Run → Fault → Result
finished n room r sound = fitting room (answer_text n r.schedules)
finished n room r (undefined l c) = refused refusals.undefined_variable l c
finished n room r (used_before l c) = refused refusals.used_before_definition l c
finished n room r (lengths l c) = refused refusals.lengths_differ l c
finished n room r index_variable = refused refusals.index_in_pattern 0 0

-- Questions 7 and 8, put to a sheet that passed the others.
unfoldable pub analysed : Sheet → ℕ → Result
analysed sheet room =
    let r = analyze_query_snippet sheet in
    finished (length sheet.queries) room r r.fault

-- The questions 1 to 6, then the others.
abbrev pub after_reading : List ℕ → ℕ → Outcome → Result
after_reading s room (Ok x) = analysed (sheet_in s) room
after_reading s room (Err r) = refused (questions.refusal_number r) (questions.refusal_line r) 0

-- All questions, put to bytes with lent buffers of these lengths: tables, work and the answer.
unfoldable pub result_of : Limits → List ℕ → ℕ → ℕ → ℕ → Result
result_of lim s tables work room = after_reading s room (questions.verdict lim s tables work)

-- ---- what is left

-- The number, the line and the column returned, and every element of the lent buffers.
pub record Left : Type 0 where
  pub number : ℕ
  pub line : ℕ
  pub col : ℕ
  pub tables : List ℕ
  pub work : List ℕ
  pub answer : List ℕ

-- Tables and work are zeros; so is the answer behind its text, and all of it after a refusal.
abbrev pub left_by : ℕ → ℕ → ℕ → Result → Left
left_by tables work room (refused n l c) =
    record { number = n; line = l; col = c; tables = replicate tables 0; work = replicate work 0; answer = replicate room 0 }
left_by tables work room (answered text) = record {
  number = 0;
  line = 0;
  col = 0;
  tables = replicate tables 0;
  work = replicate work 0;
  answer = text ++ replicate (room - length text) 0;
}

-- All that the call leaves.
unfoldable pub left : Limits → List ℕ → ℕ → ℕ → ℕ → Left
left lim s tables work room = left_by tables work room (result_of lim s tables work room)

-- ---- what is printed

-- The printing program's text.
abbrev pub printed : Result → List ℕ
printed (refused n l c) = refusal_text n l c
printed (answered text) = text
