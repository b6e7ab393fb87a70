use Rattle.scope_walk.specs.Inner.Walking.{remains}
use Rattle.scope_vars.proofs.assigned.+gather_assigned_vars.Given as goal

abbrev pub decreases-gather_assigned_vars : goal.decreases-gather_assigned_vars
decreases-gather_assigned_vars l = remains l.tables.now l.row
