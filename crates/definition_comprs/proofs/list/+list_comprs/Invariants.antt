use Rattle.scope_walk.specs.Inner.Walking.{remains}
use Rattle.definition_comprs.proofs.list.+list_comprs.Given as goal

abbrev pub decreases-list_comprs : goal.decreases-list_comprs
decreases-list_comprs l = remains l.tables.now l.row
