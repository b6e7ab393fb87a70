-- The row's last field.
use mathlib.Core.Path.{ap, ◌∙◌}
use Rattle.sheet.specs.declared.Row.{Row}
use Rattle.sheet.proofs.Laws.Sheet.{row-fields}
use Rattle.sheet_rows.proofs.next_at.Goals as goal

pub returns : goal.returns
returns c = ap (λ (w : Row). w.next) (c.row_at.ensures ∙ row-fields _ _)
