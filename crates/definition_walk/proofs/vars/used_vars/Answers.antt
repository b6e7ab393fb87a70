-- The walk starts with nothing found.
use Rattle.definition_walk.proofs.Laws.Defining.{gathered-uses}
use Rattle.definition_walk.proofs.vars.used_vars.Goals as goal

pub returns : goal.returns
returns c =
    gathered-uses _ _ _ _ _ c.args.row c.args.rest _ _ c.empty-names.ensures _ _ _ _ _ c.used_from.ensures
