-- A local, or else an unscoped name.
use mathlib.Core.Path.{sym, ◌∙◌}
use Rattle.definition_walk.proofs.Laws.Own.{own_local, own-unscoped}
use Rattle.definition_walk.proofs.own.owns.Goals as goal

pub returns-then-contains : goal.returns-then-contains
returns-then-contains c = own_local _ _ (sym c.contains.ensures ∙ c.if-contains.true)

pub returns : goal.returns
returns c = own-unscoped _ _ (sym c.contains.ensures ∙ c.if-contains.false) _ c.contains-2.ensures
