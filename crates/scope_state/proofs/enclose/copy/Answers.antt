-- The front is what was copied.
use Rattle.scope_state.proofs.Laws.Enclosing.{copied_front}
use Rattle.scope_state.proofs.enclose.copy.Goals as goal

pub returns : goal.returns
returns c = copied_front c.args.from.now _ _ c.requires.0 c.copy_from_slice.ensures.after
