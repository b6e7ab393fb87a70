-- The fault is put in where the count rose and there is none.
use mathlib.Core.Path.{sym, ◌∙◌}
use borrow.Author.Tests.{lt-ltb, le-ltb}
use Rattle.definition_literal.proofs.Laws.Choices.{chosen_by_both, passed_over_second}
use Rattle.definition_literal.proofs.some.fail_if_some.Goals as goal

pub returns-then-before-p : goal.returns-then-before-p
returns-then-before-p c =
    c.fail.ensures ∙ chosen_by_both _ _ _ _ (sym c.is_sound.ensures ∙ c.if-is_sound.true) (lt-ltb _ _ c.if-before-p.true)

pub returns-else-before-p : goal.returns-else-before-p
returns-else-before-p c =
    passed_over_second _ _ _ _ (sym c.is_sound.ensures ∙ c.if-is_sound.true) (le-ltb _ _ c.if-before-p.false)
