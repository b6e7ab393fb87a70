use Rattle.scope_walk.specs.Inner.Walking.{remains}
use Rattle.definition_expr.proofs.mods.+use_mods.Given as goal

abbrev pub decreases-use_mods : goal.decreases-use_mods
decreases-use_mods l = remains l.tables.now l.row
