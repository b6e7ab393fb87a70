use Rattle.scope_walk.specs.Inner.Walking.{remains}
use Rattle.definition_after.proofs.used_by.+leaves_used.Given as goal

abbrev pub decreases-leaves_used : goal.decreases-leaves_used
decreases-leaves_used l = remains l.tables.now l.row
