-- There is a name, or none.
use Rattle.definition_record.proofs.Laws.Records.{each-empty, each-some}
use Rattle.definition_record.proofs.record.record_each.Goals as goal

pub returns-then-is_empty : goal.returns-then-is_empty
returns-then-is_empty c =
    each-empty _ _ _ c.args.without _ _ _ c.is_empty.ensures c.if-is_empty.true _ c.less-from.ensures _ _ c.record_one.ensures

pub returns : goal.returns
returns c = each-some _ _ _ c.args.without _ _ _ c.is_empty.ensures c.if-is_empty.false _ _ c.record_names.ensures
