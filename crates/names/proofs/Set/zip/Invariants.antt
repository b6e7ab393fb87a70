-- The loop's invariant: each word passed is made of the sets' words, and the others are still the first set's.
use mathlib.Core.Path.{◌≡◌}
use Prim.Native.Nat.{ℕ, ◌<◌, ◌≤◌}
use lib.ListN.{length, get_or}
use Rattle.names.proofs.Set.zip.Given as goal

abbrev pub invariant-loop-i : goal.invariant-loop-i
invariant-loop-i g l =
    let mine = l.fn.self.words in
    (length l.words ≡ g.row.N)
    × ((j : ℕ) → j < l.i → goal.F-post g l.make (get_or mine j 0) (get_or l.other.words j 0) (get_or l.words j 0))
    × ((j : ℕ) → l.i ≤ j → get_or l.words j 0 ≡ get_or mine j 0)
