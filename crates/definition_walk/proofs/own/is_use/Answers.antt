-- One test after the other, in the order of the definition.
use Rattle.definition_walk.proofs.Laws.Own.{use_special, use_own, use_other}
use Rattle.definition_walk.proofs.own.is_use.Goals as goal

pub returns-then-is_special : goal.returns-then-is_special
returns-then-is_special c = use_special _ _ _ _ c.is_special.ensures c.if-is_special.true _

pub returns-then-owns : goal.returns-then-owns
returns-then-owns c =
    use_own _ _ _ _ c.is_special.ensures c.if-is_special.false _ c.owns.ensures c.if-owns.true _ _ c.contains.ensures

pub returns : goal.returns
returns c =
    use_other _ _ _ _ c.is_special.ensures c.if-is_special.false _ c.owns.ensures c.if-owns.false _
