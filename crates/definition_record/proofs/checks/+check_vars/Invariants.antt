use Rattle.scope_walk.specs.Inner.Walking.{remains}
use Rattle.definition_record.proofs.checks.+check_vars.Given as goal

abbrev pub decreases-check_vars : goal.decreases-check_vars
decreases-check_vars l = remains l.tables.now l.row
