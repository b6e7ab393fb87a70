-- Each way out is one of the laws: no number, a field, or a number with another byte or nothing behind it.
use Rattle.sheet_values.proofs.Laws.Fields.{field-none, field-over, field_wrong, field-good}
use Rattle.sheet_values.proofs.long_field_at.Goals.{else-end-s-via-then-end-s+else-s-end, else-end-s-via-else-end-s}
use Rattle.sheet_values.proofs.long_field_at.Goals as goal

pub returns-in_err-number : goal.returns-in_err-number
returns-in_err-number c = rw c.from_residual.ensures (field-none _ _ _ c.in_err-number.ensures)

pub returns-then-s-end : goal.returns-then-s-end
returns-then-s-end c =
    field-good _ _ _ c.requires _ c.in_ok-number.ensures c.if-end-s.true c.if-s-end.true

pub returns : goal.returns
returns c =
    elim c.else-end-s.branch [
      | else-end-s-via-then-end-s+else-s-end w ↦
          field_wrong _ _ _ c.requires _ c.in_ok-number.ensures w.if-end-s.true w.if-s-end.false
      | else-end-s-via-else-end-s w ↦ field-over _ _ _ c.requires _ c.in_ok-number.ensures w.if-end-s.false
    ]
