-- The loop's invariant: uses of the names that it has passed are entered.
use mathlib.Core.Path.{◌≡◌}
use Rattle.definition_comprs.proofs.Laws.Uses.{Using}
use Rattle.definition_comprs.proofs.after.use_names.Given as goal

abbrev pub invariant-loop-x : goal.invariant-loop-x
invariant-loop-x l =
    (l.x-iterator.set ≡ l.fn.names) × Using l.w l.fn.names.words l.initial.firsts l.firsts l.x-iterator.from
