-- The loop's invariant: the lines of the locals that it has passed are written.
use mathlib.Core.Path.{◌≡◌}
use Prim.Native.Nat.{◌≤◌}
use Rattle.answer_write.specs.Inner.Texts.{Extends}
use Rattle.answer_text.specs.Inner.Ranges.{texts}
use Rattle.answer_text.specs.Inner.Texts.{local_line}
use Rattle.answer_text.proofs.answers.Answers.put_locals.Given as goal

abbrev pub invariant-loop-x : goal.invariant-loop-x
invariant-loop-x l =
    (l.x-iterator.set ≡ l.initial.x-iterator.set)
    × (l.x-iterator.from ≤ 512)
    × Extends l.initial.text (texts (local_line l.self.blocks.width l.self.blocks.words.now l.q) 0 l.x-iterator.from) l.text
