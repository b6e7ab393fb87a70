-- The loop's invariant: the values in front are written.
use lib.ListN.{take}
use Rattle.base.specs.Lists.{concat_map}
use Rattle.answer_write.specs.Inner.Texts.{Extends}
use Rattle.answer_text.proofs.Laws.Rows.{spaced}
use Rattle.answer_text.proofs.rows.put_row.Given as goal

abbrev pub invariant-loop-value : goal.invariant-loop-value
invariant-loop-value l = Extends l.initial.text (concat_map spaced (take l.value-index l.front)) l.text
