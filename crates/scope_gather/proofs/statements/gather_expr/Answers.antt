-- Each way out is one of the laws.
use mathlib.Core.Path.{◌∙◌}
use Rattle.sheet.proofs.Laws.Sheet.{row-fields}
use Rattle.scope_gather.proofs.Laws.Statements.{expr-none, expr_assign, expr-other}
use Rattle.scope_gather.proofs.statements.gather_expr.Goals as goal

pub returns-then-row-eq0 : goal.returns-then-row-eq0
returns-then-row-eq0 c =
    let a = c.args in
    expr-none a.tables.now a.outer.now c.requires.accepted a.row c.if-row-eq0.true a.scope a.spans.now

pub returns-then-is_assign : goal.returns-then-is_assign
returns-then-is_assign c =
    let a = c.args in
    expr_assign a.tables.now a.outer.now c.requires.accepted a.row c.if-row-eq0.false c.requires.row_in c.row_at.result
    (c.row_at.ensures ∙ row-fields _ _) _ c.is_assign.ensures c.if-is_assign.true _ _ _ _ c.gather_vars.ensures

pub returns : goal.returns
returns c =
    let a = c.args in
    expr-other a.tables.now a.outer.now c.requires.accepted a.row c.if-row-eq0.false c.requires.row_in c.row_at.result
    (c.row_at.ensures ∙ row-fields _ _) _ c.is_assign.ensures c.if-is_assign.false _ _ _ _ _ _ c.gather_read-s.ensures
    _ c.get_extra_arg-extra.ensures c.gather_vars-2.ensures
