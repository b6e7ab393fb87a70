-- A use comes to the set.
use Rattle.definition_walk.proofs.Laws.UsedVars.{var-used, var_not_used}
use Rattle.definition_walk.proofs.step.used_var.Goals as goal

pub returns-then-is_use : goal.returns-then-is_use
returns-then-is_use c =
    var-used _ _ _ _ _ _ c.is_use.ensures c.if-is_use.true _ c.insert.ensures

pub returns : goal.returns
returns c = var_not_used _ _ _ _ _ _ c.is_use.ensures c.if-is_use.false
