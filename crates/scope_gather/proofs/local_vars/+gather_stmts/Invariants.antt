use Rattle.scope_gather.specs.Inner.Queries.{stmts_left}
use Rattle.scope_gather.proofs.local_vars.+gather_stmts.Given as goal

abbrev pub decreases-gather_stmts : goal.decreases-gather_stmts
decreases-gather_stmts l = stmts_left l.tables.now l.row
