-- One of them, or none.
use Rattle.definition_expr.proofs.Laws.ComprRows.{row_first, row_others, row-none}
use Rattle.definition_expr.proofs.joined_row.Goals as goal

pub returns-then-first-ne0 : goal.returns-then-first-ne0
returns-then-first-ne0 c = row_first _ c.args.others _ c.if-first-ne0.true

pub returns-then-others-ne0 : goal.returns-then-others-ne0
returns-then-others-ne0 c = row_others _ _ _ c.if-first-ne0.false c.if-others-ne0.true

pub returns : goal.returns
returns c = row-none _ _ c.args.row c.if-first-ne0.false c.if-others-ne0.false
