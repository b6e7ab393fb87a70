use Rattle.scope_walk.specs.Inner.Walking.{remains}
use Rattle.definition_walk.proofs.assigned.+assigned_vars.Given as goal

abbrev pub decreases-assigned_vars : goal.decreases-assigned_vars
decreases-assigned_vars l = remains l.tables.now l.row
