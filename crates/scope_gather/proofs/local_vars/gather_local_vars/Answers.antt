-- The statements, the outputs, then the locals leave the other sets (`gathered`).
use Rattle.scope_gather.proofs.Laws.Queries.{gathered}
use Rattle.scope_gather.proofs.local_vars.gather_local_vars.Goals as goal

pub returns : goal.returns
returns c =
    let a = c.args in
    gathered a.tables.now a.outer.now a.query c.requires.from c.requires.to _ c.first_at-row.ensures a.key a.value _ _ _ _ _ _ _ _ _
    c.empty-none.ensures c.gather_stmts-s.ensures c.gather_vars_each-s.ensures c.gather_vars_each-s-2.ensures c.remove_shadowed.ensures
