-- The number tells which of the laws the way out is.
use lib.ListN.{length}
use Rattle.base.specs.Limits.{printing}
use Rattle.print.proofs.Laws.Printed.{prints_refusal, prints_answer}
use Rattle.print.proofs.printing.put_printed.Goals as goal

pub returns-then-reply-ne0 : goal.returns-then-reply-ne0
returns-then-reply-ne0 c =
    let left = c.analyze-reply in
    let both = prints_refusal printing c.args.sheet.now (length c.args.tables.now) (length c.args.work.now) (length c.args.answer.now) left.result _ _ _ left.ensures
    c.if-reply-ne0.true c.requires _ _ c.put_refusal.ensures in
    record { fits = both.0; text = both.1 }

pub returns : goal.returns
returns c =
    let left = c.analyze-reply in
    let both = prints_answer printing c.args.sheet.now (length c.args.tables.now) (length c.args.work.now) (length c.args.answer.now) left.result _ _ _ left.ensures
    c.if-reply-ne0.false _ c.text_length.ensures in
    record { fits = both.0; text = both.1 }
