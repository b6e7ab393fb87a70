-- The loop's invariant: the words passed have no member from `from` up. The lowest bit of a word from there says whether it has one.
use Prim.Native.Nat.{◌*◌}
use Rattle.names.specs.Inner.Sets.{Gap}
use Rattle.names.proofs.Set.next.Given as goal

abbrev pub invariant-loop-i : goal.invariant-loop-i
invariant-loop-i g l = Gap l.self.words l.from (64 * l.i)
