-- The loop's invariant: each word passed met the test, `a | b == b`. Where one does not, some bit of it is a member of `self` and not of `other`.
use mathlib.Core.Path.{◌≡◌}
use Prim.Native.Nat.{ℕ, ◌<◌}
use lib.ListN.{get_or}
use Rattle.names.proofs.Laws.Words.{or_word}
use Rattle.names.proofs.Set.is_subset.Given as goal

abbrev pub invariant-loop-i : goal.invariant-loop-i
invariant-loop-i g l = (j : ℕ) → j < l.i → or_word l.self.words l.other.words j ≡ get_or l.other.words j 0
