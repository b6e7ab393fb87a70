-- The trailing zeros of the word, shifted down to bit `from`, lead from there to its lowest set bit.
use Prim.Native.Nat.{◌/◌, ◌^◌}
use native.Mathlib.Nat.{lt_of_le_of_lt}
use native.Mathlib.Omega.{arith}
use lib.Count.{trailing_le}
use lib.Dec.{lit<}
use Rattle.names.proofs.Laws.Lowest.{lowest_shifted, lowest_none}
use Rattle.names.proofs.lowest.Goals as goal

pub overflow_cast-result : goal.overflow_cast-result
overflow_cast-result c = record { fits = lt_of_le_of_lt (trailing_le 64 _) (lit< tt) }

pub overflow_add-result : goal.overflow_add-result
overflow_add-result c = omega (arith, trailing_le 64 (c.args.word / 2 ^ c.args.from))

pub returns-then-from-lt64 : goal.returns-then-from-lt64
returns-then-from-lt64 c = lowest_shifted c.args.word c.args.from

pub returns-else-from-lt64 : goal.returns-else-from-lt64
returns-else-from-lt64 c = lowest_none c.args.word c.args.from (omega arith)
