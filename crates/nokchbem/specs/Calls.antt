-- What each exported call returns and leaves in the lent buffers.
-- Beside: include/nokchbem.h.
use Rattle.std.specs.Prelude.{◌≡◌, List, ℕ, ◌≤◌, replicate}
use Rattle.base.specs.Limits.{Limits, library}
use Rattle.order.specs.Call.{refusal, schedule_number, schedule_outcome, order_buffer, reached_buffer}
use Rattle.order_records.specs.declared.Definition.{Definition}
use Rattle.order_records.specs.Records.{rows_of_records}
use Rattle.sheet.specs.Verdict as Verdict
use Rattle.sheet.specs.Verdict.{Outcome, verdict, left_tables}
use Rattle.answer.specs.Call.{Left, left}

-- `nokchbem_schedule`: the number of its outcome, and every element of both buffers, whatever stood in them before.
pub record ScheduleCall (definitions : List ℕ) (statements room marks r : ℕ) (order_after reached_after : List ℕ) : Type 0 where
  pub returned : r ≡ schedule_number (schedule_outcome library definitions statements room marks)
  pub ordered : order_after ≡ order_buffer library definitions statements room marks
  pub marked : reached_after ≡ reached_buffer library definitions statements room marks

-- `nokchbem_schedule_records`: the same, of the rows that the records are.
abbrev pub RecordsCall : List Definition → ℕ → ℕ → ℕ → ℕ → List ℕ → List ℕ → Type 0
RecordsCall records statements room marks r order_after reached_after = ScheduleCall (rows_of_records records) statements room marks r order_after reached_after

-- An outcome of the reader as one number: 0 where the sheet is read.
abbrev pub read_number : Outcome → ℕ
read_number r = refusal (Verdict.number r) (Verdict.fault_line r) 0

-- `nokchbem_read`, with the limits of the library: the number of its outcome, and every element of the tables and of work, whatever stood in them
-- before.
pub record ReadCall (lim : Limits) (sheet : List ℕ) (room long r : ℕ) (tables_after work_after : List ℕ) : Type 0 where
  pub returned : r ≡ read_number (verdict lim sheet room long)
  pub tabled : tables_after ≡ left_tables sheet room (verdict lim sheet room long)
  pub worked : work_after ≡ replicate long 0

-- What a call leaves, its number and position as one number: 0 where the sheet is answered.
abbrev pub left_number : Left → ℕ
left_number l = refusal l.number l.line l.col

-- `nokchbem_analyze`, with the limits of the library, and the printing program's call, with its own: that number, whose parts can be read back since
-- line and column fit 16 bits; and every element of the tables, of work and of the answer, whatever stood in them before.
pub record AnalyzeCall (lim : Limits) (sheet : List ℕ) (room long most r : ℕ) (tables_after work_after answer_after : List ℕ) : Type 0 where
  pub returned : r ≡ left_number (left lim sheet room long most)
  pub line-fits : (left lim sheet room long most).line ≤ 65535
  pub col-fits : (left lim sheet room long most).col ≤ 65535
  pub tabled : tables_after ≡ (left lim sheet room long most).tables
  pub worked : work_after ≡ (left lim sheet room long most).work
  pub answered : answer_after ≡ (left lim sheet room long most).answer
