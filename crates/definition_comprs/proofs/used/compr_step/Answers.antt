-- What its query takes, and of that what is the scope's own.
use Rattle.definition_comprs.proofs.Laws.Used.{step-compr}
use Rattle.definition_comprs.proofs.used.compr_step.Goals as goal

pub returns : goal.returns
returns c =
    let a = c.args in
    step-compr a.width a.scope a.work.now a.w a.names _ c.taken_by-taken.ensures _ c.own_inputs-own.ensures _ c.union.ensures
