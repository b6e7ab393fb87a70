-- What holds of a list that is placed.
use Rattle.std.specs.Prelude.{List, ℕ, ◌≤◌, ◌<◌}
use Rattle.base.specs.Limits as limits
use Rattle.order.specs.Call.{row_count, statement_at, var_at}
use Rattle.order_rows.specs.Inner.Links.{Linked}

-- The rows are of n statements and 512 names, and the links have the rows of each statement.
pub record SoundRows (w : ℕ) (ws first next : List ℕ) (n : ℕ) : Type 0 where
  pub few : n ≤ limits.most_statements
  pub stated : (k : ℕ) → k < row_count w ws → statement_at w ws k < n
  pub named : (k : ℕ) → k < row_count w ws → var_at w ws k < limits.per_name
  pub linked : Linked w ws first next
