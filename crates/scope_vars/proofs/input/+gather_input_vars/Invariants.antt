use Rattle.scope_walk.specs.Inner.Walking.{remains}
use Rattle.scope_vars.proofs.input.+gather_input_vars.Given as goal

abbrev pub decreases-gather_input_vars : goal.decreases-gather_input_vars
decreases-gather_input_vars l = remains l.tables.now l.row
