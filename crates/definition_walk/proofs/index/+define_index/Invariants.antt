use Rattle.scope_walk.specs.Inner.Walking.{remains}
use Rattle.definition_walk.proofs.index.+define_index.Given as goal

abbrev pub decreases-define_index : goal.decreases-define_index
decreases-define_index l = remains l.tables.now l.row
