-- More records than a list may have are refused.
use mathlib.Core.Path.{sym, subst₂}
use native.Mathlib.Omega.{arith}
use Rattle.std.specs.Prelude.{Err}
use Rattle.base.specs.Limits.{library}
use Rattle.order.specs.declared.Refused.TheVariants.{BadList}
use Rattle.order_schedule.specs.Inner.Call.{Scheduled}
use Rattle.order_records.specs.Records.{rows_of_records}
use Rattle.order_records.proofs.Laws.Question.{too_many}
use Rattle.order_records.proofs.schedule_records.Goals as goal

pub returns-then-records-gt-DEFINITIONS : goal.returns-then-records-gt-DEFINITIONS
returns-then-records-gt-DEFINITIONS c =
    let a = c.args in
    subst₂ (Scheduled library (rows_of_records a.records.now) a.statements _ _ (Err BadList)) (sym (c.fill.ensures.after (λ y e. e)))
    (sym (c.fill-then-records-gt-DEFINITIONS.ensures.after (λ y e. e)))
    (too_many a.records.now a.statements _ _ (omega (arith, c.if-records-gt-DEFINITIONS.true)))
