-- By the first word of the block.
use Rattle.definition_comprs.proofs.Laws.Takes.{taken_none, taken-some}
use Rattle.definition_comprs.proofs.taken.taken_by.Goals as goal

pub returns-then-state-eq0 : goal.returns-then-state-eq0
returns-then-state-eq0 c =
    taken_none c.args.width c.args.work.now _ c.requires.from c.requires.to _ c.block_word-state.ensures c.if-state-eq0.true _ c.empty-inputs.ensures

pub returns : goal.returns
returns c =
    taken-some c.args.width c.args.work.now _ c.requires.from c.requires.to _ c.block_word-state.ensures c.if-state-eq0.false _ c.block_word-flag.ensures
    _ c.block_inputs-inputs.ensures
