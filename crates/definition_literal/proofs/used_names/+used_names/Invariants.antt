use Rattle.scope_walk.specs.Inner.Walking.{remains}
use Rattle.definition_literal.proofs.used_names.+used_names.Given as goal

abbrev pub decreases-used_names : goal.decreases-used_names
decreases-used_names l = remains l.tables.now l.row
