-- Look-ups in tables, and how they change when a query's schedules enter.
use Rattle.std.specs.Prelude.{◌≡◌, true, List, ℕ}
use Rattle.std.proofs.Math.Option.{none}
use Rattle.base.specs.Lists.{elem}
use Rattle.definition.specs.States.{QuerySchedule, schedule_of}

-- No query on the list has a schedule.
abbrev pub Fresh : List ℕ → List QuerySchedule → Type 0
Fresh F T = (x : ℕ) → elem x F ≡ true → schedule_of T x ≡ none
