-- The loop's invariant: what is left of the round (`Rounding`). Names that no statement defines would change nothing.
use mathlib.Core.Path.{◌≡◌}
use Rattle.base.specs.Lists.{range}
use Rattle.order.specs.Inner.Orders.{round_order}
use Rattle.order_rows.specs.Inner.Rows.{definitions_of}
use Rattle.order_place.specs.Inner.State.{order_of}
use Rattle.order_place.proofs.Laws.Rounding.{Rounding}
use Rattle.order_place.proofs.State.take_round.Given as goal

abbrev pub invariant-loop-name : goal.invariant-loop-name
invariant-loop-name l =
    let defs = definitions_of l.list.rows in
    (l.name-iterator.set ≡ l.list.defined)
    × Rounding defs l.list.n l.list.defined.words (round_order defs l.list.n (range 0 512) (order_of l.initial.self)) l.self l.name-iterator.from
