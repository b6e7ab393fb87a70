-- The loop's invariant: the bytes in front are written.
use lib.ListN.{take}
use Rattle.answer_write.specs.Inner.Texts.{Extends}
use Rattle.answer_write.proofs.Text.put_bytes.Given as goal

abbrev pub invariant-loop-byte : goal.invariant-loop-byte
invariant-loop-byte l = Extends l.initial.self (take l.byte-index l.bytes) l.self
