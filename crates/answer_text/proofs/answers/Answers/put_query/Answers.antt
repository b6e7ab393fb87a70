-- By the state of the query.
use mathlib.Core.Path.{sym, ap, ◌∙◌}
use mir.Val.{bool_byte}
use Rattle.answer_write.proofs.Laws.Texts.{extends_as}
use Rattle.answer_text.proofs.Laws.Texts.{is_never_word, query-never, unplaced_row, placed_row}
use Rattle.answer_text.proofs.answers.Answers.put_query.Goals as goal

pub returns-in-Unanalysed : goal.returns-in-Unanalysed
returns-in-Unanalysed c = extends_as _ _ _ _ (sym (query-never _ _ _ (is_never_word _ c.in-Unanalysed.ensures))) c.put_row.ensures

pub returns-in-Unplaced : goal.returns-in-Unplaced
returns-in-Unplaced c =
    extends_as _ _ _ _
    (unplaced_row _ _ _ (c.args.self.sound c.args.q c.requires.0 c.requires.1) _ (c.from-input.ensures ∙ ap bool_byte c.uses_input.ensures) c.in-Unplaced.ensures)
    c.put_row-in-Unplaced.ensures

pub returns-in-Placed : goal.returns-in-Placed
returns-in-Placed c =
    extends_as _ _ _ _
    (placed_row _ _ _ (c.args.self.sound c.args.q c.requires.0 c.requires.1) _ (c.from-input.ensures ∙ ap bool_byte c.uses_input.ensures) c.in-Placed.ensures)
    c.put_row-in-Placed.ensures
