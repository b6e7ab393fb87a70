-- The loop's invariant: each word passed is that of the set that has the number alone.
use mathlib.Core.Path.{◌≡◌}
use Prim.Native.Nat.{ℕ, ◌<◌}
use lib.ListN.{length, get_or}
use Rattle.names.proofs.Laws.Words.{only_word}
use Rattle.names.proofs.Set.only.Given as goal

abbrev pub invariant-loop-i : goal.invariant-loop-i
invariant-loop-i g l = (length l.words ≡ g.row.N) × ((j : ℕ) → j < l.i → get_or l.words j 0 ≡ only_word l.number j)
