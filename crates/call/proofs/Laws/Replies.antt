-- Laws of `Replies`.
use mathlib.Core.Path.{◌≡◌, refl}
use mathlib.Core.List.{List, ◌++◌}
use Prim.Native.Nat.{ℕ, ◌-◌, ◌≤◌, ◌<◌}
use lib.ListN.{length, replicate}
use borrow.Author.Tests.{le-leb, lt-leb}
use Rattle.base.specs.Refusals as refusals
use Rattle.std.specs.Prelude.{Err}
use Rattle.sheet.specs.declared.Refusal.{Refusal}
use Rattle.definition.specs.States.{Run}
use Rattle.answer.specs.Call.{fitting, finished, after_reading}
use Rattle.definition_state.specs.declared.Fault.{Fault}
use Rattle.definition_state.specs.declared.Fault.TheVariants.{Undefined, UsedBefore, Lengths, IndexVariable}
use Rattle.definition_state.specs.Inner.Faults.{meant}
use Rattle.call.specs.Inner.Replies.{refusal_reply, Replies, fault_reply}

-- ---- each way out

-- The sheet is not read.
pub refusal_replies : (s : List ℕ) (room : ℕ) (r : Refusal) → Replies room (after_reading s room (Err r)) (refusal_reply r) (replicate room 0)
refusal_replies s room r = λ tables work. refl

-- The analysis ends with a fault.
pub fault_replies : (n room : ℕ) (run : Run) (f : Fault)
    → Replies room (finished n room run (meant f)) (fault_reply f) (replicate room 0)
fault_replies n room run (Undefined l c) = λ tables work. refl
fault_replies n room run (UsedBefore l c) = λ tables work. refl
fault_replies n room run (Lengths l c) = λ tables work. refl
fault_replies n room run IndexVariable = λ tables work. refl

-- The text fits, or not.
module _ (room : ℕ) (text : List ℕ) where
  pub fits_replies : length text ≤ room
      → Replies room (fitting room text) (record { number = 0; line = 0; col = 0 }) (text ++ replicate (room - length text) 0)
  fits_replies h tables work = rw (le-leb (length text) room h)

  pub not_replies : room < length text → Replies room (fitting room text) (record { number = refusals.text_too_long; line = 0; col = 0 }) (replicate room 0)
  not_replies h tables work = rw (lt-leb (length text) room h)
