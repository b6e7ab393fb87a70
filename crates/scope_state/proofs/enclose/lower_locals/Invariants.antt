-- The loop's invariant: the numbers of the locals that it has passed are lowered.
use mathlib.Core.Path.{◌≡◌}
use Rattle.scope_state.proofs.Laws.Changes.{Changing}
use Rattle.scope_state.specs.Inner.Enclosing.{lowered}
use Rattle.scope_state.proofs.enclose.lower_locals.Given as goal

abbrev pub invariant-loop-name : goal.invariant-loop-name
invariant-loop-name l =
    (l.name-iterator.set ≡ l.fn.locals)
    × Changing l.fn.locals.words (lowered l.spans) l.initial.inner l.inner l.name-iterator.from
