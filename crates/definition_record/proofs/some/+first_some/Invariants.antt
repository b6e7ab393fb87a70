use Rattle.scope_walk.specs.Inner.Walking.{remains}
use Rattle.definition_record.proofs.some.+first_some.Given as goal

abbrev pub decreases-first_some : goal.decreases-first_some
decreases-first_some l = remains l.tables.now l.row
