-- The loop's invariant: the lines of the places below k are written.
use Rattle.answer_write.specs.Inner.Texts.{Extends}
use Rattle.answer_text.specs.Inner.Ranges.{texts}
use Rattle.answer_text.specs.Inner.Texts.{place_line}
use Rattle.answer_text.proofs.answers.Answers.put_places.Given as goal

abbrev pub invariant-loop-k : goal.invariant-loop-k
invariant-loop-k l = Extends l.initial.text (texts (place_line l.self.blocks.width l.self.blocks.words.now l.q) 0 l.k) l.text
