-- A variable that the pattern binds, or nothing.
use Rattle.definition_record.proofs.Laws.SomeVars.{some-bound, some_passed}
use Rattle.definition_record.proofs.some.some_var.Goals as goal

pub returns-then-is_bound : goal.returns-then-is_bound
returns-then-is_bound c =
    some-bound _ _ c.args.w _ _ c.is_bound.ensures c.if-is_bound.true _ c.insert.ensures

pub returns : goal.returns
returns c = some_passed _ _ c.args.w _ _ c.is_bound.ensures c.if-is_bound.false
