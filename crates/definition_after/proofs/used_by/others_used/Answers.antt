-- The parts of the key, then those of the value.
use Rattle.definition_cycle.proofs.Laws.PatternUses.{others_used}
use Rattle.definition_after.proofs.used_by.others_used.Goals as goal

pub returns : goal.returns
returns c =
    let args = c.args in
    others_used args.tables.now args.p.width args.p.scope args.work.now args.key args.value args.context _ _ _ c.empty-none.ensures c.leaves_used-by.ensures
    c.leaves_used.ensures
