-- By the first word of the block.
use Rattle.definition_comprs.proofs.Laws.Pending.{not-analysed, not_pending}
use Rattle.definition_comprs.proofs.pending.unscheduled.Goals as goal

pub returns-then-state-eq0 : goal.returns-then-state-eq0
returns-then-state-eq0 c = not-analysed c.args.width c.args.work.now _ _ c.block_word-state.ensures c.if-state-eq0.true

pub returns : goal.returns
returns c = not_pending c.args.width c.args.work.now c.args.query _ c.block_word-state.ensures c.if-state-eq0.false
