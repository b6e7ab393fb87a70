use Rattle.sheet_values.proofs.Laws.Rows.{fields_stop, fields-next, fields-fault, fields-last}
use Rattle.sheet_values.proofs.row_at.Goals as goal

pub returns-in_err-field : goal.returns-in_err-field
returns-in_err-field c =
    rw c.from_residual.ensures (fields_stop _ _ _ c.loop-i.invariant c.loop-i-test.true c.in_err-field.ensures)

pub loop-i-preserved : goal.loop-i-preserved
loop-i-preserved c = fields-next _ _ _ c.loop-i.invariant c.loop-i-test.true _ c.in_ok-field.ensures

pub returns-in_err-field-2 : goal.returns-in_err-field-2
returns-in_err-field-2 c =
    rw c.from_residual-in_err-field-2.ensures (fields-fault _ _ _ c.loop-i.invariant c.loop-i-test.false c.in_err-field-2.ensures)

pub returns : goal.returns
returns c = fields-last _ _ _ c.loop-i.invariant c.loop-i-test.false _ c.in_ok-field-2.ensures
