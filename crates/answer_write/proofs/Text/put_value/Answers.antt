-- The digits, then the byte.
use mathlib.Core.Path.{refl}
use native.Mathlib.Omega.{arith}
use Rattle.answer_write.proofs.Laws.Writes.{puts_then}
use Rattle.answer_write.proofs.Text.put_value.Goals as goal

pub returns : goal.returns
returns c = record { same = refl; puts = puts_then _ _ _ _ _ _ _ _ (c.put_number-behind.ensures 4 (omega arith)) c.put_byte-self.ensures }
