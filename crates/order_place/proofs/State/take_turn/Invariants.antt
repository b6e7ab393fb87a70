-- The loop's invariant: what is left of the turn (`Turning`). A try takes the statement at hand off it.
use Prim.Native.Nat.{◌-◌}
use Rattle.order.specs.Inner.Orders.{turn_order}
use Rattle.order_rows.specs.Inner.Rows.{definitions_of}
use Rattle.order_place.specs.Inner.State.{order_of}
use Rattle.order_place.proofs.Laws.Turning.{Turning}
use Rattle.order_place.proofs.State.take_turn.Given as goal

abbrev pub invariant-loop-i : goal.invariant-loop-i
invariant-loop-i l =
    let defs = definitions_of l.list.rows in
    Turning defs l.list.n l.name (turn_order defs l.list.n l.name (order_of l.initial.self)) l.self l.from

abbrev pub decreases-loop-i : goal.decreases-loop-i
decreases-loop-i l = 128 - l.from
