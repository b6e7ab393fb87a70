-- Both sets lose the locals.
use Rattle.scope_state.proofs.Laws.Agrees.{without_locals}
use Rattle.scope_state.proofs.Scope.remove_shadowed.Goals as goal

pub returns : goal.returns
returns c = without_locals _ _ _ c.difference-unscoped.ensures c.difference-inputs.ensures
