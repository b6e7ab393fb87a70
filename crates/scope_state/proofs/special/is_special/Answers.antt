-- One test after the other, in the order of the definition.
use mathlib.Core.Path.{sym, ◌∙◌}
use Rattle.scope_walk.proofs.Laws.Sheets.{is-blank, is-input, is_data}
use Rattle.scope_state.proofs.special.is_special.Goals as goal

pub returns-then-name-tables : goal.returns-then-name-tables
returns-then-name-tables c = is-blank _ _ c.if-name-tables.true

pub returns-then-is_input : goal.returns-then-is_input
returns-then-is_input c = is-input _ _ c.if-name-tables.false (sym c.is_input.ensures ∙ c.if-is_input.true)

pub returns : goal.returns
returns c = is_data _ _ c.if-name-tables.false (sym c.is_input.ensures ∙ c.if-is_input.false)
