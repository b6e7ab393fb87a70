-- The scheduler's calls, over rows of words or over records: refusal 8 and zeros, or what demand 3 says of the list; and that the two
-- agree.
-- Beside: document 01, Questions (the scheduler's own call) and Order.
use Rattle.std.specs.Prelude.{◌≡◌, true, Bool, cond, List, ◌++◌, map, ◌↔◌, ℕ, ◌-◌, ◌*◌, replicate, length}
use Rattle.base.specs.Limits as limits
use Rattle.base.specs.Lists.{elem, range}
use Rattle.base.specs.Refusals as refusals
use Rattle.order.specs.Definitions as turns
use Rattle.order.specs.Definitions.{plain_walk, WalkEnded, can_be_walked}
use Rattle.order.specs.Turns.{statements, placements, mark, placed, order, reached}
use Rattle.order.specs.Relisting.{Bijection, Permutes, Relisted, OrderOfAll}
use Rattle.promises.specs.Demand1.{Parts}
use Rattle.order.specs.Call.{definitions, schedule_number, outcome}
use Rattle.order_records.specs.declared.Definition.{Definition}
use Rattle.order_records.specs.Records.{definition_of}

-- A list out of bounds: 8 at 0 0, and every entry of both buffers is 0.
pub record Refused (room marks r : ℕ) (o m : List ℕ) : Type 0 where
  pub parts : Parts r refusals.bad_list 0 0
  pub no_order : o ≡ replicate room 0
  pub no_marks : m ≡ replicate marks 0

-- n statements with these definitions: the mark placed r, the order o and the marks m.
pub record ListMeaning (defs : List turns.Definition) (n room marks r : ℕ) (o m : List ℕ) : Type 0 where
  -- However the statements are relisted by π, the names exchanged one to one by ρ, the definitions listed and repeated, and whatever is picked until
  -- nothing can be taken: the marks are those of the statements that the plain walk over the exchanged list took, with zeros behind them.
  pub marked : (π ρ : Bijection) (others : List turns.Definition) → Permutes n π → Relisted π.to ρ.to defs others
      → (picks : List ℕ) → WalkEnded others n (plain_walk others n picks)
      → m ≡ map (λ i. mark (elem (π.to i) (plain_walk others n picks))) (range 0 n) ++ replicate (marks - n) 0
  -- 1 is returned exactly when some order of all statements, each once, can be walked; otherwise 0.
  pub placed_exactly : (r ≡ 1) ↔ ((q : List ℕ) × OrderOfAll n q × (can_be_walked defs n q ≡ true))
  pub no_other : (r ≡ 1 → ⊥) → r ≡ 0
  -- The order is then such a one, that of the turns, with zeros behind it.
  pub order_of_turns : r ≡ 1
      → (o ≡ statements (placements defs n limits.per_name) ++ replicate (room - n) 0)
      × OrderOfAll n (statements (placements defs n limits.per_name))
      × (can_be_walked defs n (statements (placements defs n limits.per_name)) ≡ true)
  -- Otherwise it is the written one.
  pub order_as_written : r ≡ 0 → o ≡ range 0 n ++ replicate (room - n) 0

-- What a call leaves, by whether the list is accepted and by its definitions alone.
pub record Leaves (accepted : Bool) (defs : List turns.Definition) (n room marks r : ℕ) (o m : List ℕ) : Type 0 where
  pub returned : r ≡ schedule_number (outcome accepted (placed defs n limits.per_name))
  pub ordered : o ≡ cond accepted (order defs n limits.per_name ++ replicate (room - n) 0) (replicate room 0)
  pub marked : m ≡ cond accepted (map (λ i. mark (reached defs n limits.per_name i)) (range 0 n) ++ replicate (marks - n) 0) (replicate marks 0)

-- Words that are as many as the records' rows, and define the same.
pub record SameList (ws : List ℕ) (ds : List Definition) : Type 0 where
  pub long : length ws ≡ 10 * length ds
  pub define : definitions 10 ws ≡ map definition_of ds
