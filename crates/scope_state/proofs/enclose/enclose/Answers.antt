-- Copied, then the locals lowered, then the unscoped names cleared (`encloses`).
use Rattle.scope_state.proofs.Laws.Enclosing.{encloses}
use Rattle.scope_state.proofs.enclose.enclose.Goals as goal

pub returns : goal.returns
returns c =
    encloses _ _ c.args.spans.now _ _ _ c.copy.ensures c.lower_locals.ensures c.clear_unscoped.ensures
