use mathlib.Core.Path.{◌≡◌}
use mathlib.Core.Bool.{Bool}
use Prim.Native.Nat.{ℕ, ◌+◌, ◌-◌, ◌≤◌}
use Rattle.sheet.specs.Faults.{first_at_fault}
use Rattle.sheet_faults.specs.Inner.Firsts.{Tells}
use Rattle.sheet_faults.proofs.first_fault.Given as goal

abbrev pub invariant-loop-row : goal.invariant-loop-row
invariant-loop-row g l =
    (1 ≤ l.row) × (l.row ≤ l.last + 1)
    × ((fault : ℕ → Bool) → Tells (goal.F-post g l.is_at_fault) fault l.last → first_at_fault fault l.row (l.last + 1 - l.row) ≡ first_at_fault fault 1 l.last)
