-- The scope is the opened one, and the rest is as it was (`opened_from`).
use Rattle.definition_cycle.proofs.Laws.Finishing.{opened_from}
use Rattle.definition_after.proofs.finish.opened.Goals as goal

pub returns : goal.returns
returns c = opened_from _ _ _ c.opened-open.ensures c.with_scope.ensures
