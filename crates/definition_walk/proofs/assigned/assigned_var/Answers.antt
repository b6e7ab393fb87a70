-- Each way out is one of the laws.
use Rattle.definition_walk.proofs.Laws.Assigned.{leaf_own, leaf_foreign}
use Rattle.definition_walk.proofs.assigned.assigned_var.Goals as goal

pub returns-then-owns : goal.returns-then-owns
returns-then-owns c =
    leaf_own _ c.args.w _ c.requires.0 _ c.owns.ensures c.if-owns.true _ c.insert.ensures

pub returns : goal.returns
returns c =
    leaf_foreign _ c.args.w _ c.requires.0 _ c.owns.ensures c.if-owns.false
