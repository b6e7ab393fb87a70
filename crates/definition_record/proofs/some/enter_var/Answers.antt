-- A variable that the pattern binds, or nothing.
use Rattle.definition_record.proofs.Laws.SomeVars.{enter-bound, enter_passed}
use Rattle.definition_record.proofs.some.enter_var.Goals as goal

pub returns-then-is_bound : goal.returns-then-is_bound
returns-then-is_bound c =
    enter-bound _ _ c.args.w _ _ c.is_bound.ensures c.if-is_bound.true _ c.add_first_use.ensures

pub returns-else-is_bound : goal.returns-else-is_bound
returns-else-is_bound c = enter_passed _ _ c.args.w _ _ c.is_bound.ensures c.if-is_bound.false
