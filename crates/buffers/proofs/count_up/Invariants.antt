-- The loop's invariant: the numbers below i at the front, and what stood there after.
use mathlib.Core.Path.{◌≡◌}
use mathlib.Core.List.{◌++◌}
use Prim.Native.Nat.{◌≤◌, ◌-◌}
use lib.ListN.{length, drop}
use Rattle.base.specs.Lists.{range}
use Rattle.buffers.proofs.count_up.Given as goal

abbrev pub invariant-loop-i : goal.invariant-loop-i
invariant-loop-i l =
    (l.i ≤ l.n) × (length l.buffer ≡ length l.initial.buffer) × (l.buffer ≡ range 0 l.i ++ drop l.i l.initial.buffer)

abbrev pub decreases-loop-i : goal.decreases-loop-i
decreases-loop-i l = l.n - l.i
