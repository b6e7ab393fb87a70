-- What the function that concludes a query asks of where it is called.
use Rattle.std.specs.Prelude.{List, ℕ, ◌≤◌, length}
use Rattle.base.specs.Limits as limits
use Rattle.scope_walk.specs.Inner.Sheets.{Accepted, query_count}

-- A query of the sheet, and a word for each name.
pub record AsksConclude (t : List ℕ) (query : ℕ) (spans : List ℕ) : Type 0 where
  pub accepted : Accepted t
  pub from : 1 ≤ query
  pub to : query ≤ query_count t
  pub spans-room : limits.per_name ≤ length spans
