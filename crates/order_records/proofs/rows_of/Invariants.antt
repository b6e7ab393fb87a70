use mathlib.Core.Path.{◌≡◌}
use Prim.Native.Nat.{◌*◌}
use lib.ListN.{length, take}
use Rattle.order_records.specs.Records.{rows_of_records}
use Rattle.order_records.proofs.rows_of.Given as goal

abbrev pub invariant-loop-i : goal.invariant-loop-i
invariant-loop-i l = (length l.words ≡ 6400) × (take (10 * l.i) l.words ≡ rows_of_records (take l.i l.records))
