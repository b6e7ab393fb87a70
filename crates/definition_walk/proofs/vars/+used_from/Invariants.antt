use Rattle.scope_walk.specs.Inner.Walking.{remains}
use Rattle.definition_walk.proofs.vars.+used_from.Given as goal

abbrev pub decreases-used_from : goal.decreases-used_from
decreases-used_from l = remains l.tables.now l.row
