use Rattle.scope_gather.specs.Inner.Queries.{stmts_left}
use Rattle.answer_schedule.proofs.count.+count_from.Given as goal

abbrev pub decreases-count_from : goal.decreases-count_from
decreases-count_from l = stmts_left l.tables.now l.row
