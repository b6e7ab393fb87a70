-- One test after the other, in the order of the definition.
use Rattle.definition_literal.proofs.Laws.SomeIn.{name-input, name_local}
use Rattle.definition_literal.proofs.some.is_name.Goals as goal

pub returns-then-is_input : goal.returns-then-is_input
returns-then-is_input c =
    name-input _ _ c.args.w c.requires.0 _ c.is_input.ensures c.if-is_input.true

pub returns : goal.returns
returns c =
    name_local _ _ c.args.w c.requires.0 _ c.is_input.ensures c.if-is_input.false _ c.contains.ensures
