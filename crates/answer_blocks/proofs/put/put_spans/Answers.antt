-- The words are put one after the other.
use native.Mathlib.Omega.{arith}
use Rattle.answer_blocks.proofs.Laws.Laws.{spans_put_all}
use Rattle.answer_blocks.proofs.put.put_spans.Goals.{After-words}
use Rattle.answer_blocks.proofs.put.put_spans.Goals as goal

pub returns : goal.returns
returns c =
    let a = c.args in
    spans_put_all a.width _ a.q _ _ _ _ c.loop-i.i (omega (arith, c.place_of-first.ensures, c.words.ensures)) (omega (arith, c.words-count.ensures)) (omega arith) c.loop-i.invariant
