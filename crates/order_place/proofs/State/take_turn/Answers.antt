use native.Mathlib.Omega.{arith}
use Rattle.order_place.proofs.Laws.Turning.{turning_first, turning_next, turning_done, is_waiting}
use Rattle.order_place.specs.Inner.State.{Waiting}
use Rattle.order_rows.specs.Inner.Rows.{definitions_of}
use Rattle.order_place.proofs.State.take_turn.Goals.{In-Some}
use Rattle.order_place.proofs.State.take_turn.Goals as goal

-- The statement at hand waits.
waiting : (c : In-Some) → Waiting (definitions_of c.args.list.now.rows) c.args.list.now.n c.loop-i.self c.in-Some.i
waiting c =
    let list = c.args.list.now in
    is_waiting list.sound list.masked c.requires.named c.loop-i.invariant c.in-Some.ensures

pub loop-i-init : goal.loop-i-init
loop-i-init c = turning_first c.args.name c.requires.holds_placed

pub attempt-requires-clause-waiting : goal.attempt-requires-clause-waiting
attempt-requires-clause-waiting c = waiting (goal.at.attempt-requires-clause-waiting c).In-Some

pub overflow_add-from : goal.overflow_add-from
overflow_add-from c =
    let list = c.args.list.now in
    record { fits = omega (arith, (waiting (goal.at.overflow_add-from c).In-Some).below, list.sound.few) }

pub loop-i-smaller : goal.loop-i-smaller
loop-i-smaller c =
    let list = c.args.list.now in
    omega (arith, c.in-Some.ensures.low, (waiting (goal.at.loop-i-smaller c).In-Some).below, list.sound.few)

pub loop-i-preserved : goal.loop-i-preserved
loop-i-preserved c =
    let list = c.args.list.now in
    turning_next list.sound list.masked c.requires.named c.loop-i.invariant c.in-Some.ensures c.attempt.ensures

pub returns : goal.returns
returns c =
    let list = c.args.list.now in
    turning_done list.sound list.masked c.requires.named c.loop-i.invariant c.in_default.ensures
