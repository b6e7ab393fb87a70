-- One digit, or the digits in front and the last.
use Rattle.answer_write.proofs.Laws.Decimal.{number-digit, number_more}
use Rattle.answer_write.proofs.bytes.+put_number.Goals as goal

pub returns-then-n-lt10 : goal.returns-then-n-lt10
returns-then-n-lt10 t c = number-digit _ _ _ c.if-n-lt10.true _ _ c.put_byte.ensures

pub returns : goal.returns
returns t c = number_more _ _ _ c.if-n-lt10.false _ _ c.put_number-front.ensures _ _ c.put_byte-2.ensures
