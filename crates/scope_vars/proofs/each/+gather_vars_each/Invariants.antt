-- The walk goes on to later rows only.
use Rattle.scope_walk.specs.Inner.Walking.{remains}
use Rattle.scope_vars.proofs.each.+gather_vars_each.Given as goal

abbrev pub decreases-gather_vars_each : goal.decreases-gather_vars_each
decreases-gather_vars_each l = remains l.tables.now l.row
