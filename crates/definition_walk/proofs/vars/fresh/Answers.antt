-- The empty set takes the place of the names.
use Rattle.definition_walk.proofs.Laws.Defining.{made_fresh}
use Rattle.definition_walk.proofs.vars.fresh.Goals as goal

pub returns : goal.returns
returns c = made_fresh _ _ c.empty-none.ensures _ c.with_names.ensures
