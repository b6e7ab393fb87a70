-- The question is asked, or it changes nothing.
use Rattle.definition_cycle.proofs.Laws.Assigning.{checked_asked, checked_passed}
use Rattle.definition_after.proofs.assign.checked.Goals as goal

pub returns-then-check : goal.returns-then-check
returns-then-check c =
    checked_asked _ _ c.args.check _ _ c.if-check.true _ c.check_assigned.ensures

pub returns : goal.returns
returns c =
    checked_passed _ _ c.args.check _ _ c.if-check.false
