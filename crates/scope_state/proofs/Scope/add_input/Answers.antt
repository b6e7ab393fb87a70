-- The inputs with the name.
use Rattle.scope_state.proofs.Laws.Agrees.{with-input}
use Rattle.scope_state.proofs.Scope.add_input.Goals as goal

pub returns : goal.returns
returns c = with-input _ _ _ c.insert-inputs.ensures
