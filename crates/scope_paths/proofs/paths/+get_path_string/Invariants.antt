use Rattle.scope_walk.specs.Inner.Walking.{remains}
use Rattle.scope_paths.proofs.paths.+get_path_string.Given as goal

abbrev pub decreases-get_path_string : goal.decreases-get_path_string
decreases-get_path_string l = remains l.tables.now l.row
