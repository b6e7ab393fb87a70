-- The loop's invariant: the rounds that are left (`Placing`). A round that places nothing is the last, and so is any once all are placed.
use Prim.Native.Nat.{◌-◌}
use Rattle.order.specs.Inner.Orders.{placed_order}
use Rattle.order_rows.specs.Inner.Rows.{definitions_of}
use Rattle.order_place.proofs.Laws.Placing.{Placing}
use Rattle.order_place.proofs.place_in.Given as goal

abbrev pub invariant-loop-state : goal.invariant-loop-state
invariant-loop-state l = let defs = definitions_of l.list.rows in Placing defs l.list.n (placed_order defs l.list.n 512) l.state

abbrev pub decreases-loop-state : goal.decreases-loop-state
decreases-loop-state l = l.list.n - l.state.count
