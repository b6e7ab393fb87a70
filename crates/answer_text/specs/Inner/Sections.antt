-- The sections and the whole answer, as they are written.
use Rattle.std.specs.Prelude.{◌≡◌, List, ℕ}
use Rattle.std.proofs.Math.Option.{Option}
use Prim.Native.String.{String}
use Rattle.answer.specs.Text.{all_rows, section, answer_text}
use Rattle.answer_write.specs.Inner.Writes.{Puts}
use Rattle.answer_write.specs.declared.Text.{Text}
use Rattle.definition.specs.States.{QuerySchedule}
use Rattle.names_width.specs.declared.Width.{Width}
use Rattle.answer_text.specs.Inner.Stored.{Stored}

-- The text has at its end a section about n queries, whatever schedules the words store.
abbrev pub PutsSection : (ℕ → Option QuerySchedule → List (List ℕ)) → String → Width → List ℕ → ℕ → Text → Text → Type 0
PutsSection rows heading v w n before after =
    (schedules : List QuerySchedule) → Stored v w schedules → Puts before.bytes.now before.end (section heading (all_rows rows n schedules)) after.bytes.now after.end

-- The text has at its end the answer about n queries, whatever schedules the words store.
pub record PutsAnswer (v : Width) (w : List ℕ) (n : ℕ) (before after : Text) : Type 0 where
  pub same : after.bytes.ghost_name ≡ before.bytes.ghost_name
  pub puts : (schedules : List QuerySchedule) → Stored v w schedules → Puts before.bytes.now before.end (answer_text n schedules) after.bytes.now after.end
