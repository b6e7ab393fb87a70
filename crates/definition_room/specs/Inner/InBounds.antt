-- What the scheduler asks of a list of definitions, clause by clause, of what a query recorded.
use mathlib.Core.List.{Memᴰ}
use Rattle.std.specs.Prelude.{◌≤◌, ◌<◌, length}
use Rattle.base.specs.Limits as limits
use Rattle.base.specs.Limits.{Limits}
use Rattle.order.specs.Definitions.{Definition}
use Rattle.definition.specs.States.{QuerySchedule}

-- At most 128 statements and 640 definitions, and each definition with a statement below the count and a name within the limit.
pub record InBounds (lim : Limits) (a : QuerySchedule) : Type 0 where
  pub few-statements : a.count ≤ limits.most_statements
  pub few-definitions : length a.definitions ≤ limits.most_definitions
  pub stated : (d : Definition) → Memᴰ d a.definitions → d.statement < a.count
  pub named : (d : Definition) → Memᴰ d a.definitions → d.var ≤ lim.names
