-- What is left when the others leave.
use Rattle.definition_comprs.proofs.Laws.OwnInputs.{own-inputs}
use Rattle.definition_comprs.proofs.own.own_inputs.Goals as goal

pub returns : goal.returns
returns c =
    let args = c.args in
    own-inputs args.scope args.inputs _ _ _ c.difference-not_local.ensures c.difference-others.ensures c.difference.ensures
