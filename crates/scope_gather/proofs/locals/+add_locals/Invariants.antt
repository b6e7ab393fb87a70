use Rattle.scope_walk.specs.Inner.Walking.{remains}
use Rattle.scope_gather.proofs.locals.+add_locals.Given as goal

abbrev pub decreases-add_locals : goal.decreases-add_locals
decreases-add_locals l = remains l.tables.now l.row
