-- What every schedule in the table has: a property of scopes and definitions that holds when a query's scope is gathered, and that each
-- change keeps.
use mathlib.Core.List.{List, Memᴰ}
use Rattle.order.specs.Definitions.{Definition}
use Rattle.scope.specs.Scopes.{Scope}
use Rattle.definition.specs.States.{QuerySchedule}

-- Each schedule on the list has S.
abbrev pub EachSchedule : (Scope → List Definition → Type 0) → List QuerySchedule → Type 0
EachSchedule S schedules = (a : QuerySchedule) → Memᴰ a schedules → S a.scope a.definitions
