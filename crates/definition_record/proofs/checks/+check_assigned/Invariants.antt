use Rattle.scope_walk.specs.Inner.Walking.{remains}
use Rattle.definition_record.proofs.checks.+check_assigned.Given as goal

abbrev pub decreases-check_assigned : goal.decreases-check_assigned
decreases-check_assigned l = remains l.tables.now l.row
