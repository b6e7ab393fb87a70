-- What falls from call to call: the levels left, and within a level where the analysis is. A list has at most 64 comprehensions.
use Rattle.std.proofs.Common.{◌+◌, ◌-◌, ◌*◌}
use Rattle.scope_walk.specs.Inner.Walking.{remains}
use Rattle.scope_gather.specs.Inner.Queries.{stmts_left}
use Rattle.definition_query.proofs.query.+analysis.Given as goal

abbrev pub decreases-analyze_query : goal.decreases-analyze_query
decreases-analyze_query l = l.levels * 8192

abbrev pub decreases-assign_pair : goal.decreases-assign_pair
decreases-assign_pair l = l.context.levels * 8192 + 521

abbrev pub decreases-process_comprs : goal.decreases-process_comprs
decreases-process_comprs l = l.levels * 8192 + ((l.end - l.at) + 1)

abbrev pub decreases-process_every : goal.decreases-process_every
decreases-process_every l = l.context.levels * 8192 + 1100

abbrev pub decreases-process_expr : goal.decreases-process_expr
decreases-process_expr l = l.context.levels * 8192 + 1100

abbrev pub decreases-process_literal : goal.decreases-process_literal
decreases-process_literal l = l.context.levels * 8192 + 1101

abbrev pub decreases-process_non_var : goal.decreases-process_non_var
decreases-process_non_var l = l.context.levels * 8192 + 521

abbrev pub decreases-process_non_vars : goal.decreases-process_non_vars
decreases-process_non_vars l = l.context.levels * 8192 + (530 + remains l.tables.now l.row)

abbrev pub decreases-process_pairs : goal.decreases-process_pairs
decreases-process_pairs l = l.context.levels * 8192 + (530 + remains l.tables.now l.left)

abbrev pub decreases-process_some_in : goal.decreases-process_some_in
decreases-process_some_in l = l.context.levels * 8192 + 1100

abbrev pub decreases-process_stmts : goal.decreases-process_stmts
decreases-process_stmts l = l.levels * 8192 + (1110 + stmts_left l.tables.now l.row)

abbrev pub decreases-use_expr : goal.decreases-use_expr
decreases-use_expr l = l.context.levels * 8192 + 520
