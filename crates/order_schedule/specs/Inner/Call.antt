-- What the scheduler's call comes to, and what it leaves in the lent buffers: functions of what was lent.
use Rattle.std.specs.Prelude.{◌≡◌, Bool, List, ◌++◌, map, ℕ, ◌-◌, length, get_or, replicate}
use Rattle.base.specs.Limits as limits
use Rattle.base.specs.Limits.{Limits}
use Rattle.base.specs.Lists.{elem, range}
use Rattle.order.specs.Turns.{placed, order, reached, mark}
use Rattle.order.specs.Call.{ScheduleOutcome, definitions, schedule_outcome, order_buffer, reached_buffer}

-- A buffer as long as before, with a mark for each statement of an order, and zeros.
pub record MarkedBy (placed before after : List ℕ) : Type 0 where
  pub long : length after ≡ length before
  pub marks : (i : ℕ) → get_or after i 0 ≡ mark (elem i placed)

-- Rows `ws` of definitions, n statements, and buffers of lengths `room` and `marks`; names below 512.
module _ (lim : Limits) (ws : List ℕ) (n room marks : ℕ) where
  -- What a list that the question lets through comes to: whether all are placed, and the two buffers.
  pub record Arranged (all : Bool) (order' reached' : List ℕ) : Type 0 where
    pub came-to : all ≡ placed (definitions lim.row ws) n limits.per_name
    pub ordered : order' ≡ order (definitions lim.row ws) n limits.per_name ++ replicate (room - n) 0
    pub marked : reached' ≡ map (λ i. mark (reached (definitions lim.row ws) n limits.per_name i)) (range 0 n) ++ replicate (marks - n) 0

  -- All that the call leaves.
  pub record Scheduled (r : ScheduleOutcome) (order' reached' : List ℕ) : Type 0 where
    pub came-to : r ≡ (schedule_outcome lim ws n room marks)
    pub ordered : order' ≡ (order_buffer lim ws n room marks)
    pub marked : reached' ≡ (reached_buffer lim ws n room marks)
