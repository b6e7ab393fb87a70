-- The row of `input` stands in the head.
use Rattle.scope_walk.proofs.Laws.Sheets.{input-at}
use Rattle.scope_state.proofs.special.is_input.Goals as goal

pub returns : goal.returns
returns c = input-at _ _
