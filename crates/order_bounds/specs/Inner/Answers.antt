-- What each answer to the question says.
use Rattle.std.specs.Prelude.{List, ℕ, ◌≤◌, ◌<◌}
use Rattle.base.specs.Limits as limits
use Rattle.base.specs.Limits.{Limits}
use Rattle.order.specs.Call.{row_count, statement_at, var_at}

-- What an accepted list has.
pub record AcceptedList (lim : Limits) (ws : List ℕ) (n room marks : ℕ) : Type 0 where
  pub few : n ≤ limits.most_statements
  pub fits : row_count lim.row ws ≤ limits.most_definitions
  pub ordered : n ≤ room
  pub marked : n ≤ marks
  pub stated : (k : ℕ) → k < row_count lim.row ws → statement_at lim.row ws k < n
  pub named : (k : ℕ) → k < row_count lim.row ws → var_at lim.row ws k ≤ lim.names
