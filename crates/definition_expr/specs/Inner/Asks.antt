-- What the functions that use an expression ask of where they are called.
use Rattle.std.specs.Prelude.{List, ℕ, ◌≤◌, length}
use Rattle.base.specs.Limits as limits
use Rattle.scope_walk.specs.Inner.Sheets.{Accepted, expr_count}
use Rattle.definition_state.specs.declared.Progress.{Progress}
use Rattle.definition_state.specs.Inner.Frames.{Ready}

-- The expression at a row, or none; `firsts` has a word for each name, and there is room for so many definitions more.
pub record AsksUse (t : List ℕ) (row : ℕ) (p : Progress) (firsts work : List ℕ) (more : ℕ) : Type 0 where
  pub accepted : Accepted t
  pub row_in : row ≤ expr_count t
  pub firsts_room : limits.per_name ≤ length firsts
  pub ready : Ready t p firsts work more
