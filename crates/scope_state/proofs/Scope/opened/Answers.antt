-- The unscoped names with the locals.
use Rattle.scope_state.proofs.Laws.Agrees.{scope_opened}
use Rattle.scope_state.proofs.Scope.opened.Goals as goal

pub returns : goal.returns
returns c = scope_opened _ _ c.union-unscoped.ensures
