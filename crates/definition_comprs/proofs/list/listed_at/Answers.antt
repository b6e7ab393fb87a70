-- The row that was read.
use mathlib.Core.Path.{◌∙◌}
use Rattle.sheet.proofs.Laws.Sheet.{row-fields}
use Rattle.definition_comprs.proofs.list.listed_at.Goals as goal

pub returns : goal.returns
returns c = c.row_at.ensures ∙ row-fields _ _
