-- The unscoped names with the others.
use Rattle.definition_literal.proofs.Laws.Binding.{joined}
use Rattle.definition_literal.proofs.extra.join_unscoped.Goals as goal

pub returns : goal.returns
returns c = joined _ _ _ c.union-unscoped.ensures
