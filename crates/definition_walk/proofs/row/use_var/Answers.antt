-- Each way out is one of the laws.
use Rattle.definition_walk.proofs.Laws.Founds.{found-special, var-own, found-input, var-undefined}
use Rattle.definition_walk.proofs.row.use_var.Goals as goal

pub returns-then-is_special : goal.returns-then-is_special
returns-then-is_special c =
    found-special _ _ _ _ _ _ _ c.requires.var _ c.is_special.ensures c.if-is_special.true _ c.is_input.ensures _ c.with_input.ensures

pub returns-then-owns : goal.returns-then-owns
returns-then-owns c =
    var-own _ _ _ c.args.row _ _ _ c.requires.var _ c.is_special.ensures c.if-is_special.false _ c.owns.ensures c.if-owns.true _ _ c.use_own.ensures

pub returns-then-contains : goal.returns-then-contains
returns-then-contains c =
    found-input _ _ _ c.args.row _ _ _ c.requires.var _ c.is_special.ensures c.if-is_special.false _ c.owns.ensures c.if-owns.false _ c.contains.ensures
    c.if-contains.true

pub returns : goal.returns
returns c =
    var-undefined _ _ _ _ _ _ _ c.requires.var _ c.is_special.ensures c.if-is_special.false _ c.owns.ensures c.if-owns.false _ c.contains.ensures
    c.if-contains.false c.requires.row_in _ c.with_undefined.ensures
