-- The fault is put in where there is none.
use mathlib.Core.Path.{sym, ◌∙◌}
use Rattle.definition_literal.proofs.Laws.Choices.{chosen}
use Rattle.definition_literal.proofs.body.after_body.Goals as goal

pub returns-then-is_sound : goal.returns-then-is_sound
returns-then-is_sound c = c.with_fault.ensures ∙ chosen _ _ _ (sym c.is_sound.ensures ∙ c.if-is_sound.true)
