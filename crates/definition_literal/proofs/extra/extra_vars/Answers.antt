-- The walk starts in a scope of no names.
use Rattle.definition_literal.proofs.Laws.ExtraNames.{extra_vars-none, vars-gathered}
use Rattle.definition_literal.proofs.extra.extra_vars.Goals as goal

pub returns-then-arg-eq0 : goal.returns-then-arg-eq0
returns-then-arg-eq0 c = extra_vars-none _ _ _ c.if-arg-eq0.true _ c.empty.ensures

pub returns : goal.returns
returns c =
    vars-gathered _ _ _ c.requires.0 c.if-arg-eq0.false _ c.empty-none.ensures _ _ _ c.gather_assigned_vars-scope.ensures
