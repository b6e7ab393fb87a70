-- One digit before the separator is the law `field-digit`; all else is what `long_field_at` reads.
use Rattle.sheet_values.proofs.Laws.Fields.{field-digit}
use Rattle.sheet_values.proofs.field_at.Goals as goal

pub returns-in-Some : goal.returns-in-Some
returns-in-Some c =
    field-digit _ _ _ _ c.if-end-s.true c.if-s-end.true c.in-Some.ensures.value c.in-Some.ensures.small
