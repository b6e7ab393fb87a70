-- The loop's invariant: the names that it has passed are defined.
use mathlib.Core.Path.{◌≡◌}
use Rattle.definition_record.proofs.Laws.Each.{Defining}
use Rattle.definition_record.proofs.each.define_each.Given as goal

abbrev pub invariant-loop-x : goal.invariant-loop-x
invariant-loop-x l =
    (l.x-iterator.set ≡ l.fn.names)
    × Defining l.width l.statement l.fn.names l.used l.without l.initial.definitions l.count l.definitions l.n l.x-iterator.from
