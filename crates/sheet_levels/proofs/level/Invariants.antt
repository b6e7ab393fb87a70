use mathlib.Core.Path.{◌≡◌}
use Prim.Native.Nat.{◌-◌}
use Rattle.sheet_levels.specs.Inner.Levels.{level_by}
use Rattle.sheet_levels.proofs.Laws.Levels.{level_after}
use Rattle.sheet_levels.proofs.level.Given as goal

abbrev pub invariant-loop-steps : goal.invariant-loop-steps
invariant-loop-steps l =
    level_after l.steps (level_by l.last l.work (l.n - l.steps) l.at) ≡ level_by l.last l.work l.n l.q
