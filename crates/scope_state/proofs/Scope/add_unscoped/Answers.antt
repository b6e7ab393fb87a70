-- The unscoped names with the name.
use Rattle.scope_state.proofs.Laws.Agrees.{with-unscoped}
use Rattle.scope_state.proofs.Scope.add_unscoped.Goals as goal

pub returns : goal.returns
returns c = with-unscoped _ _ _ c.insert-unscoped.ensures
