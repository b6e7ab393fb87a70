use mathlib.Core.Path.{◌≡◌}
use Prim.Native.Nat.{ℕ, ◌<◌}
use lib.ListN.{length, get_or}
use Rattle.sheet_chains.specs.Inner.Numbers.{Chained}
use Rattle.sheet_chains.proofs.follow_all.Given as goal

abbrev pub invariant-loop-row : goal.invariant-loop-row
invariant-loop-row l =
    (length l.work ≡ length l.initial.work) × Chained l.counts l.tables l.row l.work × ((j : ℕ) → j < 673 → get_or l.work j 0 ≡ get_or l.initial.work j 0)
