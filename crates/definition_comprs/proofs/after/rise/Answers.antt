-- What the calls do is a turn of a comprehension (`scope-risen`).
use Rattle.definition_comprs.proofs.Laws.Rising.{scope-risen}
use Rattle.definition_comprs.proofs.after.rise.Goals as goal

pub returns : goal.returns
returns c =
    let args = c.args in
    scope-risen args.w args.work.now args.p _ _ c.taken_by-taken.ensures _ c.own_inputs-own.ensures _ c.difference-others.ensures _
    c.propagate-wider.ensures _ c.use_names.ensures _ c.with_scope.ensures
