-- The scheduler's call: definitions as rows of words, its one question, and what it returns and leaves.
-- Beside: document 01, Questions (the scheduler's own call).
use Rattle.std.specs.Prelude.{List, map, ◌++◌, ℕ, ◌+◌, ◌-◌, ◌*◌, ◌/◌, ◌%◌, ◌^◌, length, get_or, replicate, Bool, ◌&&◌, cond, eqb, ltb, leb, Result, Ok, Err}
use Rattle.base.specs.Lists.{range, all}
use Rattle.base.specs.Sets.{members, words_at}
use Rattle.order.specs.Definitions.{Definition}
use Rattle.base.specs.Limits as limits
use Rattle.base.specs.Limits.{Limits}
use Rattle.base.specs.Refusals as refusals
use Rattle.order.specs.Turns.{placed, order, reached, mark}
use Rattle.order.specs.declared.Refused.{Refused}
use Rattle.order.specs.declared.Refused.TheVariants.{BadList}

-- ---- definitions as rows of words

module _ (w : ℕ) (ws : List ℕ) where
  abbrev pub row_count : ℕ
  row_count = length ws / w

  abbrev pub statement_at : ℕ → ℕ
  statement_at k = get_or ws (w * k) 0

  abbrev pub var_at : ℕ → ℕ
  var_at k = get_or ws (w * k + 1) 0

  abbrev pub used_words_at : ℕ → List ℕ
  used_words_at k = words_at (w - 2) ws (w * k + 2)

  abbrev pub definition_at : ℕ → Definition
  definition_at k = record { statement = statement_at k; var = var_at k; used = members (used_words_at k) }

  -- The definitions of all whole rows, in their order.
  unfoldable pub definitions : List Definition
  definitions = map definition_at (range 0 row_count)

-- ---- the one question

module _ (lim : Limits) where
  -- Is the definition's statement below the count, and its name within the limit?
  abbrev pub within : ℕ → Definition → Bool
  within n d = ltb d.statement n && leb d.var lim.names

  -- Whole rows; not too many statements or definitions; every definition within; lent buffers, of lengths `room` and `marks`, not shorter than the
  -- count.
  unfoldable pub accepts : List ℕ → ℕ → ℕ → ℕ → Bool
  accepts ws n room marks =
      eqb (length ws % lim.row) 0
      && (leb n limits.most_statements
      && (leb (row_count lim.row ws) limits.most_definitions && (leb n room && (leb n marks && all (within n) (definitions lim.row ws)))))

-- ---- what the call returns and leaves

-- A refusal and its position as one number: how every exported call returns them.
abbrev pub refusal : ℕ → ℕ → ℕ → ℕ
refusal number line col = number * 2 ^ 32 + line * 2 ^ 16 + col

-- What the call comes to: the list is refused, or it is scheduled, and all statements are placed or not.
abbrev pub ScheduleOutcome : Type 0
ScheduleOutcome = Result Bool Refused

-- The number that an outcome is returned as: a refusal at line 0, column 0; or the mark placed.
abbrev pub schedule_number : ScheduleOutcome → ℕ
schedule_number (Err BadList) = refusal refusals.bad_list 0 0
schedule_number (Ok all) = mark all

-- The outcome, by whether the list is accepted and whether it is placed.
abbrev pub outcome : Bool → Bool → ScheduleOutcome
outcome accepted all = cond accepted (Ok all) (Err BadList)

-- Rows `ws` of definitions, n statements, and buffers of lengths `room` and `marks`; names below 512.
module _ (lim : Limits) (ws : List ℕ) (n room marks : ℕ) where
  abbrev pub schedule_outcome : ScheduleOutcome
  schedule_outcome = outcome (accepts lim ws n room marks) (placed (definitions lim.row ws) n limits.per_name)

  -- An entry for each statement and zeros after; zeros throughout on a refusal.
  abbrev pub order_buffer : List ℕ
  order_buffer = cond (accepts lim ws n room marks) (order (definitions lim.row ws) n limits.per_name ++ replicate (room - n) 0) (replicate room 0)

  abbrev pub reached_buffer : List ℕ
  reached_buffer =
      cond (accepts lim ws n room marks) (map (λ i. mark (reached (definitions lim.row ws) n limits.per_name i)) (range 0 n) ++ replicate (marks - n) 0)
      (replicate marks 0)
