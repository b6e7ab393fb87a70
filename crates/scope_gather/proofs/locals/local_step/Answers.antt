-- A variable, or nothing.
use native.Mathlib.Omega.{arith}
use Rattle.scope_state.proofs.Laws.Spans.{Short}
use Rattle.scope_gather.proofs.Laws.Locals.{local_var}
use Rattle.scope_gather.proofs.locals.local_step.Goals as goal

pub returns-in-Var : goal.returns-in-Var
returns-in-Var c =
    let fits = c.struct_known-1.given in
    let short : Short c.args.w = record { line = omega (arith, fits); col = omega (arith, fits) } in
    local_var c.args.w _ _ c.in-Var.ensures short (omega (arith, c.requires.0, c.requires.1)) _ c.add_local.ensures _ c.put_span.ensures
