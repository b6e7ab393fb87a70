-- The loop's invariant: the word is the one at `at`, once the loop is past it.
use mathlib.Core.Path.{◌≡◌}
use Prim.Native.Nat.{◌<◌}
use lib.ListN.{get_or}
use Rattle.names.proofs.Set.word_at.Given as goal

abbrev pub invariant-loop-i : goal.invariant-loop-i
invariant-loop-i g l = l.at < l.i → l.word ≡ get_or l.self.words l.at 0
