-- Each way out is one of the laws.
use Rattle.scope_gather.proofs.Laws.Statements.{of_vars, of_in, of_expr, of_every}
use Rattle.scope_gather.proofs.statements.gather_literal.Goals as goal

pub returns-in-SomeVars : goal.returns-in-SomeVars
returns-in-SomeVars c =
    let a = c.args in
    of_vars a.tables.now a.outer.now a.st _ _ _ _ c.in-SomeVars.ensures c.add_locals.ensures

pub returns-in-SomeIn : goal.returns-in-SomeIn
returns-in-SomeIn c =
    let a = c.args in
    of_in a.tables.now a.outer.now a.st _ _ _ _ c.in-SomeIn.ensures _ _ _ _
    c.gather_vars_each-s.ensures c.gather_vars_each-s-in-SomeIn.ensures c.gather_read.ensures

pub returns-in-Expr : goal.returns-in-Expr
returns-in-Expr c =
    let a = c.args in
    of_expr a.tables.now a.outer.now a.st _ _ _ _ c.from.ensures c.in-Expr.is c.gather_expr.ensures

pub returns-in-Every : goal.returns-in-Every
returns-in-Every c =
    let a = c.args in
    of_every a.tables.now a.outer.now a.st _ _ _ _ c.from.ensures c.in-Every.is c.gather_read-in-Every.ensures
