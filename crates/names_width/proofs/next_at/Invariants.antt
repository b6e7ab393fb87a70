-- The loop's invariant: the words passed have no member from `from` up. The lowest bit of a word from there says whether it has one.
use Prim.Native.Nat.{◌+◌, ◌-◌, ◌*◌, ◌≤◌}
use lib.ListN.{length}
use Rattle.names.specs.Inner.Sets.{Gap}
use Rattle.base.specs.Sets.{words_at}
use Rattle.names_width.proofs.next_at.Given as goal

abbrev pub invariant-loop-i : goal.invariant-loop-i
invariant-loop-i l =
    (l.at + l.count ≤ length l.memory) × (l.count ≤ 8) × Gap (words_at l.count l.memory l.at) l.from (64 * l.i)

abbrev pub decreases-loop-i : goal.decreases-loop-i
decreases-loop-i l = l.count - l.i
