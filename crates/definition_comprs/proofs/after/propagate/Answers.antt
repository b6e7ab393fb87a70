-- The flag first, then the inputs.
use Rattle.definition_comprs.proofs.Laws.Propagated.{propagated}
use Rattle.definition_comprs.proofs.after.propagate.Goals as goal

pub returns : goal.returns
returns c =
    let args = c.args in
    propagated args.scope args.uses args.names _ c.use_input-flagged.ensures _ c.union-inputs.ensures
