-- One word changes: it gets the number's bit.
use mathlib.Core.Path.{◌∙◌}
use Prim.Native.Nat.{◌/◌}
use native.Mathlib.Omega.{arith}
use lib.ListN.{length-set}
use Rattle.names.proofs.Laws.Words.{stored_in}
use Rattle.names.proofs.add.Goals as goal

pub returns : goal.returns
returns g c =
    (length-set c.args.words.now (c.args.number / 64) _ ∙ c.requires.0, stored_in c.args.words.now c.args.number (omega (arith, c.requires)))
