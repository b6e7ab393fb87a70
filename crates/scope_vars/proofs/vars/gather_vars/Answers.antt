-- What is bound first, then what is read.
use Rattle.scope_vars.proofs.Laws.Vars.{bound_and_read}
use Rattle.scope_vars.proofs.vars.gather_vars.Goals as goal

pub returns : goal.returns
returns c =
    let a = c.args in
    bound_and_read a.tables.now a.outer.now a.row a.rest a.can_shadow _ _ _ _ _ _ c.gather_bound-s.ensures c.gather_read.ensures
