use Rattle.order_place.proofs.Laws.Placing.{placing_first, placing_full, placing_next, placing_less}
use Rattle.order_place.proofs.place_in.Goals as goal

pub loop-state-init : goal.loop-state-init
loop-state-init c = placing_first (rw c.requires.starts.now_is at c.take_turn.ensures)

pub loop-state-smaller : goal.loop-state-smaller
loop-state-smaller c = placing_less c.loop-state.invariant c.take_round.ensures c.if-state-before.false

pub loop-state-preserved : goal.loop-state-preserved
loop-state-preserved c = placing_next c.loop-state.invariant c.take_round.ensures c.if-state-before.false

pub returns-after-loop-state : goal.returns-after-loop-state
returns-after-loop-state c = placing_full c.loop-state.invariant c.loop-state-test.false
