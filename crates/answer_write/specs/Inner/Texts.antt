-- What is added to a text.
use Rattle.std.specs.Prelude.{◌≡◌, List, ℕ}
use Rattle.answer_write.specs.Inner.Writes.{Puts}
use Rattle.answer_write.specs.declared.Text.{Text}

-- The text has `more` at its end, and stands in the same bytes.
pub record Extends (before : Text) (more : List ℕ) (after : Text) : Type 0 where
  pub same : after.bytes.ghost_name ≡ before.bytes.ghost_name
  pub puts : Puts before.bytes.now before.end more after.bytes.now after.end
