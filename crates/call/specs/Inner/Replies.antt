-- What is returned beside what is left in the lent buffers, by each way out.
use Rattle.std.specs.Prelude.{◌≡◌, List, ℕ, replicate}
use Rattle.base.specs.Refusals as refusals
use Rattle.sheet.specs.declared.Refusal.{Refusal}
use Rattle.sheet.specs.Verdict as questions
use Rattle.answer.specs.Call.{Result, Left, left_by}
use Rattle.definition_state.specs.declared.Fault.{Fault}
use Rattle.definition_state.specs.declared.Fault.TheVariants.{Undefined, UsedBefore, Lengths, IndexVariable}
use Rattle.call.specs.declared.replies.Reply.{Reply}

abbrev pub refusal_reply : Refusal → Reply
refusal_reply r = record { number = questions.refusal_number r; line = questions.refusal_line r; col = 0 }

abbrev pub fault_reply : Fault → Reply
fault_reply (Undefined l c) = record { number = refusals.undefined_variable; line = l; col = c }
fault_reply (UsedBefore l c) = record { number = refusals.used_before_definition; line = l; col = c }
fault_reply (Lengths l c) = record { number = refusals.lengths_differ; line = l; col = c }
fault_reply IndexVariable = record { number = refusals.index_in_pattern; line = 0; col = 0 }

-- A reply and three buffers, as all that a call leaves.
abbrev pub as_left : Reply → List ℕ → List ℕ → List ℕ → Left
as_left r tables work answer =
    record { number = r.number; line = r.line; col = r.col; tables = tables; work = work; answer = answer }

-- The reply and so many lent bytes are those of a result. Tables and work, however long, are to be zeros.
abbrev pub Replies : ℕ → Result → Reply → List ℕ → Type 0
Replies room result r answer =
    (tables work : ℕ) → as_left r (replicate tables 0) (replicate work 0) answer ≡ left_by tables work room result
