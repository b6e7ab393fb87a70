-- What the built-in takes is compared with the number of parameters.
use Rattle.scope_paths.proofs.Laws.Extra.{extra_no_builtin, extra_counted}
use Rattle.scope_paths.proofs.extra.call_extra.Goals as goal

pub returns-in_err-arity : goal.returns-in_err-arity
returns-in_err-arity c = rw c.from_residual-in_err-arity.ensures (extra_no_builtin c.args.tables.now c.args.w c.in_ok-path.path c.in_ok-path.ensures c.in_err-arity.ensures)

pub returns : goal.returns
returns c =
    rw c.then_some.ensures
    (extra_counted c.args.tables.now c.args.w c.in_ok-path.path c.in_ok-path.ensures _ c.in_ok-arity.ensures c.end_of-end.result c.end_of-end.ensures)
