use Rattle.scope_walk.specs.Inner.Walking.{remains}
use Rattle.definition_record.proofs.some.+some_vars.Given as goal

abbrev pub decreases-some_vars : goal.decreases-some_vars
decreases-some_vars l = remains l.tables.now l.row
