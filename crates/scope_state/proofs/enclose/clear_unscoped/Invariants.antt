-- The loop's invariant: the numbers of the unscoped names that it has passed are 0.
use mathlib.Core.Path.{◌≡◌}
use Rattle.scope_state.proofs.Laws.Changes.{Changing}
use Rattle.scope_state.specs.Inner.Enclosing.{cleared}
use Rattle.scope_state.proofs.enclose.clear_unscoped.Given as goal

abbrev pub invariant-loop-name : goal.invariant-loop-name
invariant-loop-name l =
    (l.name-iterator.set ≡ l.fn.unscoped)
    × Changing l.fn.unscoped.words cleared l.initial.inner l.inner l.name-iterator.from
