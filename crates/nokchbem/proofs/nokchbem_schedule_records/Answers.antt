-- What `schedule_records` leaves, with its outcome as a number.
use mathlib.Core.Path.{ap, ◌∙◌}
use Rattle.order.specs.Call.{schedule_number}
use Rattle.nokchbem.proofs.nokchbem_schedule_records.Goals as goal

pub returns : goal.returns
returns c =
    let s = c.schedule_records.ensures in
    record { returned = c.number_of.ensures ∙ ap schedule_number s.came-to; ordered = s.ordered; marked = s.marked }
