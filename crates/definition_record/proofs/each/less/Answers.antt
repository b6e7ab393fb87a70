-- With the name or without.
use Rattle.definition_record.proofs.Laws.Each.{less_removed, less_whole}
use Rattle.definition_record.proofs.each.less.Goals as goal

pub returns-then-without : goal.returns-then-without
returns-then-without c = less_removed _ _ _ c.if-without.true _ c.remove.ensures

pub returns : goal.returns
returns c = less_whole _ _ _ c.if-without.false
