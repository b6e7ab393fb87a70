-- The locals with the name.
use Rattle.scope_state.proofs.Laws.Agrees.{with_local}
use Rattle.scope_state.proofs.Scope.add_local.Goals as goal

pub returns : goal.returns
returns c = with_local _ _ _ c.insert-locals.ensures
