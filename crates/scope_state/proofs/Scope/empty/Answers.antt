-- No name is in the empty sets.
use Rattle.scope_state.proofs.Laws.Agrees.{no_names}
use Rattle.scope_state.proofs.Scope.empty.Goals as goal

pub returns : goal.returns
returns c = no_names _ c.empty-none.ensures
