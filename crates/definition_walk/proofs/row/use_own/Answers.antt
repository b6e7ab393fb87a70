-- Bound by the extra argument, or used.
use Rattle.definition_walk.proofs.Laws.Founds.{own-bound, own-free}
use Rattle.definition_walk.proofs.row.use_own.Goals as goal

pub returns-then-contains : goal.returns-then-contains
returns-then-contains c = own-bound c.args.extras c.args.w _ _ _ c.contains.ensures c.if-contains.true

pub returns : goal.returns
returns c =
    own-free c.args.extras c.args.w _ _ _ c.contains.ensures c.if-contains.false _ c.insert-names.ensures _ c.add_first_use.ensures _
    c.with_names.ensures
