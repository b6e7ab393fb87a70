-- From what the comprehensions use, those of the modifiers with them.
use lib.ListN.{length}
use Rattle.definition_comprs.specs.Inner.Lists.{listed_at}
use Rattle.definition_cycle.proofs.Laws.UsedBy.{all-used}
use Rattle.definition_after.proofs.used_by.all_used.Goals as goal

pub returns : goal.returns
returns c =
    let a = c.args in
    all-used a.tables.now a.p.width a.p.scope a.names (listed_at a.tables.now a.rows.now 0 (length a.rows.now)) a.context a.work.now _ _ c.union-by.ensures c.comprs_used.ensures
