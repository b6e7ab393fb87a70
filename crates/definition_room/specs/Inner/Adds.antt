-- What a step does to the definitions: it puts so many of these statements behind them, at most, and changes none. Beside it, what holds
-- of the schedules.
use Rattle.std.specs.Prelude.{◌≡◌, Bool, true, ℕ, ◌≤◌, ◌<◌, ltb, length}
use mathlib.Core.List.{List, Memᴰ}
use Rattle.base.specs.Lists.{all}
use Rattle.order.specs.Definitions.{Definition}
use Rattle.sheet.specs.Sheet.{Sheet}
use Rattle.scope.specs.Statements.{stmts_of}
use Rattle.definition.specs.States.{QuerySchedule}
use Rattle.definition_room.specs.Inner.Sizes.{total, weight}

-- A definition of statement j is on the list.
pub record Recorded (j : ℕ) (defs : List Definition) : Type 0 where
  pub one : Definition
  pub listed : Memᴰ one defs
  pub statement : one.statement ≡ j

-- Is the definition's statement below k?
abbrev pub below : ℕ → Definition → Bool
below k d = ltb d.statement k

module _ (sheet : Sheet) where
  -- What a schedule recorded: of its statements alone, no more than its query weighs, and something for every statement.
  pub record FitsSchedule (a : QuerySchedule) : Type 0 where
    pub whole : a.count ≡ length (stmts_of sheet a.query)
    pub stated : all (below a.count) a.definitions ≡ true
    pub at_most : length a.definitions ≤ total weight (stmts_of sheet a.query)
    pub at_least : (j : ℕ) → j < a.count → Recorded j a.definitions
