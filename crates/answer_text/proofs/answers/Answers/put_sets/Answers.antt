-- By whether the query was analysed: its three sets, one behind the other.
use mathlib.Core.Path.{sym}
use Rattle.answer_write.proofs.Laws.Texts.{extends_none, extends_as, extends_then}
use Rattle.answer_text.proofs.Laws.Texts.{is_never, is_once, sets-never, sets-once}
use Rattle.answer_text.proofs.answers.Answers.put_sets.Goals as goal

pub returns-then-eq : goal.returns-then-eq
returns-then-eq c = extends_as _ _ _ _ (sym (sets-never _ _ _ (is_never _ _ c.state.ensures c.if-eq.ensures))) (extends_none _)

pub returns : goal.returns
returns c =
    extends_as _ _ _ _ (sym (sets-once _ _ _ (is_once _ _ c.state.ensures c.if-eq.ensures)))
    (extends_then _ _ _ _ _ c.put_locals.ensures (extends_then _ _ _ _ _ c.put_names.ensures c.put_names-2.ensures))
