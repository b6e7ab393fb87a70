-- There is a row of the statement, or none.
use Rattle.definition_record.proofs.Laws.Least.{least_there, least_recorded}
use Rattle.definition_record.proofs.Laws.Records.{least_room}
use Rattle.definition_record.proofs.least.at_least_one.Goals as goal

pub has_row-requires : goal.has_row-requires
has_row-requires c = least_room c.args.p c.args.work.now c.requires

pub returns-then-has_row : goal.returns-then-has_row
returns-then-has_row c = least_there _ c.args.first _ _ _ c.has_row.ensures c.if-has_row.true

pub returns : goal.returns
returns c =
    least_recorded _ c.args.first _ _ _ c.has_row.ensures c.if-has_row.false _ c.empty-none.ensures _ _ c.record_one.ensures
