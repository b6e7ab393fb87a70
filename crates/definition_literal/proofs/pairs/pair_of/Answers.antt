-- Two arrays by their chains, any other rows as they are.
use mathlib.Core.Path.{sym, ◌∙◌}
use Rattle.definition_literal.proofs.Laws.Choices.{chosen, passed_over}
use Rattle.definition_literal.proofs.pairs.pair_of.Goals as goal

pub returns-then-both_arrays : goal.returns-then-both_arrays
returns-then-both_arrays c =
    c.arrays.ensures ∙ chosen _ _ _ (sym c.both_arrays.ensures ∙ c.if-both_arrays.true)

pub returns : goal.returns
returns c = passed_over _ _ _ (sym c.both_arrays.ensures ∙ c.if-both_arrays.false)
