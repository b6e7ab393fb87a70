use Rattle.scope_walk.specs.Inner.Walking.{remains}
use Rattle.scope_vars.proofs.loops.+gather_loop_vars.Given as goal

abbrev pub decreases-gather_loop_vars : goal.decreases-gather_loop_vars
decreases-gather_loop_vars l = remains l.tables.now l.row
