use Rattle.scope_walk.specs.Inner.Walking.{remains}
use Rattle.scope_vars.proofs.each.+gather_read_each.Given as goal

abbrev pub decreases-gather_read_each : goal.decreases-gather_read_each
decreases-gather_read_each l = remains l.tables.now l.row
