-- What the functions that gather ask of where they are called.
use Rattle.std.specs.Prelude.{◌≡◌, List, ℕ, ◌≤◌, ◌<◌, length}
use Rattle.base.specs.Limits as limits
use Rattle.sheet.specs.declared.Row.{Row}
use Rattle.scope_walk.specs.Inner.Sheets.{Accepted, expr_count}

module _ (t outer : List ℕ) where
  -- ---- the scopes around are `outer`, a number for each name; a scope's locals stand where `spans` says, a word for each name

  -- A walk over the expressions at a row, or none.
  pub record AsksWalk (row : ℕ) (spans : List ℕ) : Type 0 where
    pub accepted : Accepted t
    pub outer-room : limits.per_name ≤ length outer
    pub row_in : row ≤ expr_count t
    pub spans-room : limits.per_name ≤ length spans

  -- A row that was read, of a pattern.
  pub record AsksPattern (w : Row) (spans : List ℕ) : Type 0 where
    pub tables-room : limits.table_entries ≤ length t
    pub outer-room : limits.per_name ≤ length outer
    pub name-low : w.name < limits.per_name
    pub spans-room : limits.per_name ≤ length spans

  -- ---- parts of the scope are lent words

  -- A row that was read, for its inputs.
  pub record AsksInput (w : Row) (unscoped inputs : List ℕ) : Type 0 where
    pub tables-room : limits.table_entries ≤ length t
    pub outer-room : limits.per_name ≤ length outer
    pub name-low : w.name < limits.per_name
    pub unscoped-words : length unscoped ≡ (limits.library).words
    pub inputs-words : length inputs ≡ (limits.library).words

  -- A walk for inputs.
  pub record AsksInputs (row : ℕ) (unscoped inputs : List ℕ) : Type 0 where
    pub accepted : Accepted t
    pub outer-room : limits.per_name ≤ length outer
    pub row_in : row ≤ expr_count t
    pub unscoped-words : length unscoped ≡ (limits.library).words
    pub inputs-words : length inputs ≡ (limits.library).words

  -- A walk for the indexes of brackets.
  pub record AsksLoops (row : ℕ) (unscoped inputs spans : List ℕ) : Type 0 where
    pub accepted : Accepted t
    pub outer-room : limits.per_name ≤ length outer
    pub row_in : row ≤ expr_count t
    pub unscoped-words : length unscoped ≡ (limits.library).words
    pub inputs-words : length inputs ≡ (limits.library).words
    pub spans-room : limits.per_name ≤ length spans
