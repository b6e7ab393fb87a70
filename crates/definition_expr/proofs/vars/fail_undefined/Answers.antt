-- The row's own line and column.
use mathlib.Core.Path.{ap, ◌∙◌}
use Rattle.sheet.specs.declared.Row.{Row}
use Rattle.sheet.proofs.Laws.Sheet.{row-fields}
use Rattle.definition_state.specs.Inner.Frames.{failed}
use Rattle.definition_state.specs.declared.Fault.TheVariants.{Undefined}
use Rattle.definition_expr.proofs.vars.fail_undefined.Goals as goal

pub returns : goal.returns
returns c =
    let p = c.args.p in
    c.fail.ensures ∙ ap (λ (w : Row). failed p (Undefined w.line w.col)) (c.row_at-w.ensures ∙ row-fields _ _)
