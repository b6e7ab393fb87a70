-- Each way out is one of the laws.
use Rattle.definition_record.proofs.Laws.Checks.{leaf_local, checked_foreign}
use Rattle.definition_record.proofs.checks.check_local.Goals as goal

pub returns-then-contains : goal.returns-then-contains
returns-then-contains c =
    leaf_local c.args.w c.args.p _ c.requires.0 _ c.contains.ensures c.if-contains.true _ c.check_first_use.ensures

pub returns : goal.returns
returns c =
    checked_foreign c.args.w c.args.p _ c.requires.0 _ c.contains.ensures c.if-contains.false
