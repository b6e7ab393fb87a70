-- One test after the other.
use Rattle.definition_record.proofs.Laws.SomeVars.{binds-input, binds_local}
use Rattle.definition_record.proofs.some.is_bound.Goals as goal

pub returns-then-is_input : goal.returns-then-is_input
returns-then-is_input c =
    binds-input _ _ c.args.w c.requires.var _ c.is_input.ensures c.if-is_input.true

pub returns : goal.returns
returns c =
    binds_local _ _ c.args.w c.requires.var _ c.is_input.ensures c.if-is_input.false _ c.contains.ensures
