-- The definitions first, then the names.
use Rattle.definition_walk.proofs.Laws.Defining.{here}
use Rattle.definition_walk.proofs.vars.used_here.Goals as goal

pub returns : goal.returns
returns c =
    here _ _ _ _ c.args.w c.args.own c.args.part _ _ _ _ c.define_here-count.ensures c.union-names.ensures
