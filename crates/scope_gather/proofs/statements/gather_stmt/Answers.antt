-- The modifiers first, then the literal.
use Rattle.scope_gather.proofs.Laws.Statements.{of_stmt}
use Rattle.scope_gather.proofs.statements.gather_stmt.Goals as goal

pub returns : goal.returns
returns c =
    let a = c.args in
    of_stmt a.tables.now a.outer.now a.st _ _ _ _ _ _ c.gather_read_each-s.ensures c.gather_literal.ensures
