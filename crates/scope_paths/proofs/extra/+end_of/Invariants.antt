use Rattle.scope_walk.specs.Inner.Walking.{remains}
use Rattle.scope_paths.proofs.extra.+end_of.Given as goal

abbrev pub decreases-end_of : goal.decreases-end_of
decreases-end_of l = remains l.tables.now l.row
