-- The word shifted down to the number's bit, `& 1`, is its last digit (`and_mask`): what `member` tests.
use mathlib.Core.Path.{ap}
use Prim.Native.Nat.{ℕ, ◌/◌, ◌%◌, ◌^◌}
use lib.Dec.{eqb}
use lib.Bits.{and_mask}
use Rattle.base.specs.Sets.{word_of, member, bit}
use Rattle.names.proofs.has.Goals as goal

pub returns : goal.returns
unfolding member bit
returns g c =
    let start = c.args in
    ap (λ (digit : ℕ). eqb digit 1) (and_mask (word_of start.words.now start.number / 2 ^ (start.number % 64)) 1)
