-- Schedules with the scopes around their queries, in which their inputs are found.
use Rattle.std.specs.Prelude.{◌≡◌, ℕ}
use mathlib.Core.List.{List, Memᴰ}
use Rattle.std.proofs.Math.Option.{some}
use Rattle.sheet.specs.Sheet.{Sheet}
use Rattle.scope.specs.Trees.{Tree}
use Rattle.scope.specs.Scopes.{Scope}
use Rattle.scope.specs.Inner.Shadowed.{InputsFound}
use Rattle.definition.specs.States.{sound, QuerySchedule, Run, schedule_of, scope_in}
use Rattle.definition.specs.RustWay.{analyze}
use Rattle.original.specs.Inner.Around.{Around}

-- A schedule, and the scopes around its query in which its inputs are found: the analysis of the query below these gave the schedule.
pub record PlacedSchedule (sheet : Sheet) (a : QuerySchedule) : Type 0 where
  pub levels : ℕ
  pub parents : List Scope
  pub outputs : List Tree
  pub around : Around sheet parents a.query outputs
  pub gave : schedule_of (analyze levels sheet parents a.query outputs).schedules a.query ≡ some a
  pub found : InputsFound parents a.scope

-- Each schedule of a table.
abbrev pub AllPlaced : Sheet → List QuerySchedule → Type 0
AllPlaced sheet schedules = (a : QuerySchedule) → Memᴰ a schedules → PlacedSchedule sheet a

-- The scope of a query in its run.
abbrev pub scope_after : Run → ℕ → Scope
scope_after r q = scope_in (schedule_of r.schedules q)

-- A run of a query below parents: its schedules are placed, and without a fault the query's inputs are found in the parents.
pub record KnownRun (sheet : Sheet) (parents : List Scope) (q : ℕ) (r : Run) : Type 0 where
  pub placed : AllPlaced sheet r.schedules
  pub found : r.fault ≡ sound → InputsFound parents (scope_after r q)
