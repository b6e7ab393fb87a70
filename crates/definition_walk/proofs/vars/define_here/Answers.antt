-- No index, or its names.
use mathlib.Core.Path.{sym, ◌∙◌}
use Rattle.definition_walk.proofs.Laws.Index.{index-none, index_as}
use Rattle.definition_walk.proofs.Laws.Defining.{index-low}
use Rattle.definition_walk.proofs.vars.define_here.Goals as goal

pub returns-then-index-eq0 : goal.returns-then-index-eq0
returns-then-index-eq0 c = index-none _ _ _ c.requires.0 _ (sym c.index_of-index.ensures ∙ c.if-index-eq0.true) _ _ _ _

pub define_index-requires : goal.define_index-requires
define_index-requires c =
    (c.requires.0, rw c.index_of-index.ensures (index-low c.args.w _ c.requires.1), rw c.index_of-index.ensures c.requires.2)

pub returns : goal.returns
returns c = index_as _ _ _ _ _ _ c.index_of-index.ensures _ _ _ _ _ c.define_index.ensures
