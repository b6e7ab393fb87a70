-- The flag was set already, or is set now, or stays.
use mathlib.Core.Path.{◌∙◌}
use Rattle.scope_state.proofs.Laws.Agrees.{with-flag}
use Rattle.scope_state.proofs.Scope.use_input.Goals.{then-set, else-set}
use Rattle.scope_state.proofs.Scope.use_input.Goals as goal

pub returns : goal.returns
returns c = with-flag _ _ _ (elim c.if-set.branch [ then-set w ↦ rw w.if-set.true (w.uses-is ∙ w.if-set.true) | else-set w ↦ rw w.if-set.false w.uses-is ])
