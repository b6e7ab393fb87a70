-- What the functions of the walk over an expression ask of where they are called.
use Rattle.std.specs.Prelude.{◌≡◌, Bool, List, ℕ, ◌≤◌, ◌<◌, length}
use Rattle.base.specs.Limits as limits
use Rattle.names.specs.Inner.Names.{Names}
use Rattle.names_width.specs.declared.Width.{Width}
use Rattle.sheet.specs.declared.Row.{Row}
use Rattle.scope_state.specs.declared.Scope.{Scope}
use Rattle.scope_walk.specs.Inner.Sheets.{Accepted, expr_count}
use Rattle.definition_walk.specs.Inner.Defining.{RoomFor}

module _ (t : List ℕ) where
  -- The row of a variable; `firsts` has a word for each name.
  pub record AsksVar (row : ℕ) (w : Row) (firsts : List ℕ) : Type 0 where
    pub tables-room : limits.table_entries ≤ length t
    pub var : w.kind ≡ 6
    pub name-low : w.name < limits.per_name
    pub row_in : row ≤ expr_count t
    pub firsts_room : limits.per_name ≤ length firsts

  -- The walk, with room for the definitions from row `count` on.
  pub record AsksUsed (v : Width) (scope : Scope) (extras : Names) (statement row : ℕ) (rest : Bool) (count : ℕ) (firsts definitions : List ℕ) : Type 0 where
    pub accepted : Accepted t
    pub row_in : row ≤ expr_count t
    pub firsts_room : limits.per_name ≤ length firsts
    pub room : RoomFor t v scope extras statement row rest count (length definitions)
