-- Demand 1: what a call on a sheet can come to. Refusals, each with where it lies; or a text that fits.
-- Beside: document 01, Questions (the last paragraph).
use Rattle.std.specs.Prelude.{◌≡◌, true, List, [], ◌∷◌, ◌++◌, ℕ, ◌≤◌, ◌-◌, ◌/◌, ◌%◌, ◌^◌, length, replicate, Ok}
use Rattle.base.specs.Lists.{elem}
use Rattle.base.specs.Refusals as refusals
use Rattle.base.specs.Limits.{Limits}
use Rattle.base.specs.Limits as least
use Rattle.names_width.specs.declared.Width.{Width}
use Rattle.names_width.specs.Widths.{limits}
use Rattle.sheet.specs.Verdict.{read_tables, verdict}
use Rattle.answer.specs.Call.{refused, answered, result_of}
use Rattle.nokchbem.specs.Calls.{AnalyzeCall, ReadCall}

-- The refusals of an input as a whole, and 14, to which the Rust gives no position; those of the sheet; and those of the walk.
abbrev pub of_the_whole : List ℕ
of_the_whole = refusals.no_room ∷ refusals.too_long ∷ refusals.text_too_long ∷ refusals.index_in_pattern ∷ []

abbrev pub of_the_sheet : List ℕ
of_the_sheet = refusals.bad_form ∷ refusals.bad_name ∷ refusals.bad_count ∷ refusals.bad_field ∷ []

abbrev pub of_the_walk : List ℕ
of_the_walk = refusals.undefined_variable ∷ refusals.used_before_definition ∷ refusals.lengths_differ ∷ []

-- A refusal's number and where it lies.
pub data Position : ℕ → ℕ → ℕ → Type 0 where
  -- At 0 0.
  whole : {n : ℕ} → elem n of_the_whole ≡ true → Position n 0 0
  -- At the first line at fault, counted from 1; the column is 0.
  at-line : {n l : ℕ} → elem n of_the_sheet ≡ true → 1 ≤ l → Position n l 0
  -- At the position of an expression.
  at-span : {n l c : ℕ} → elem n of_the_walk ≡ true → Position n l c

-- ---- the parts of what a call returns

abbrev pub number_in : ℕ → ℕ
number_in r = r / 2 ^ 32

abbrev pub line_in : ℕ → ℕ
line_in r = r / 2 ^ 16 % 2 ^ 16

abbrev pub col_in : ℕ → ℕ
col_in r = r % 2 ^ 16

-- The number returned has these parts.
pub record Parts (r number line col : ℕ) : Type 0 where
  pub the_number : number_in r ≡ number
  pub the_line : line_in r ≡ line
  pub the_col : col_in r ≡ col

-- ---- `nokchbem_analyze`, and the printing program's call

-- Whatever it was called with, with whatever limits, s with so many entries of tables, words of work and bytes for the answer, and whatever it returned and left.
module _ {lim : Limits} {s : List ℕ} {tables work room r : ℕ} {t w a : List ℕ} (call : AnalyzeCall lim s tables work room r t w a) where
  -- Either 0 is returned, tables and work are zeros, and the answer is a text with zeros behind it; or a refusal is returned, with a position as
  -- that refusal has it, and every lent element is 0.
  pub data Analyzed : Type 0 where
    succeeds : (text : List ℕ) → r ≡ 0 → length text ≤ room → result_of lim s tables work room ≡ answered text
        → t ≡ replicate tables 0 → w ≡ replicate work 0 → a ≡ text ++ replicate (room - length text) 0 → Analyzed
    refuses : (n l c : ℕ) → Parts r n l c → Position n l c → result_of lim s tables work room ≡ refused n l c
        → t ≡ replicate tables 0 → w ≡ replicate work 0 → a ≡ replicate room 0 → Analyzed

module _ (v : Width) {s : List ℕ} {tables work r : ℕ} {t w : List ℕ} (call : ReadCall (limits v) s tables work r t w) where
  -- Either 0 is returned and the tables hold the sheet's counts and rows, with zeros behind them; or a refusal with its position, and the tables
  -- are zeros. Work is zeros in both cases.
  pub data HasRead : Type 0 where
    succeeds : r ≡ 0 → verdict (limits v) s tables work ≡ Ok tt → t ≡ read_tables s ++ replicate (tables - least.table_entries) 0 → w ≡ replicate work 0 → HasRead
    refuses : (n l : ℕ) → Parts r n l 0 → Position n l 0 → t ≡ replicate tables 0 → w ≡ replicate work 0 → HasRead
