-- Each way out is one of the laws.
use mathlib.Core.Path.{sym, ◌∙◌}
use native.Mathlib.Omega.{arith}
use Rattle.scope_state.proofs.Laws.Spans.{Short}
use Rattle.scope_vars.proofs.Laws.Assigned.{var-special, var_local, var-input, var-unscoped}
use Rattle.scope_vars.proofs.assigned.assign_var.Goals as goal

pub returns-then-is_special : goal.returns-then-is_special
returns-then-is_special c =
    var-special _ _ _ _ _ (sym c.is_special.ensures ∙ c.if-is_special.true) _ c.is_input.ensures _ _ c.use_input.ensures

pub returns-then-can_shadow : goal.returns-then-can_shadow
returns-then-can_shadow c =
    let pre = c.requires in
    let fits = c.struct_known-1.given in
    let short : Short c.args.w = record { line = omega (arith, fits); col = omega (arith, fits) } in
    var_local _ _ _ _ _ (sym c.is_special.ensures ∙ c.if-is_special.false) _ c.if-can_shadow.true short (omega (arith, pre.name-low, pre.spans-room)) _ c.add_local.ensures
    _ c.put_span.ensures

pub returns-then-var_exists : goal.returns-then-var_exists
returns-then-var_exists c =
    var-input _ _ _ _ _ (sym c.is_special.ensures ∙ c.if-is_special.false) _ c.if-can_shadow.false _ c.var_exists.ensures _ c.if-var_exists.true
    c.add_input.ensures

pub returns : goal.returns
returns c =
    var-unscoped _ _ _ _ _ (sym c.is_special.ensures ∙ c.if-is_special.false) _ c.if-can_shadow.false _ c.var_exists.ensures _ c.if-var_exists.false
    c.add_unscoped.ensures
