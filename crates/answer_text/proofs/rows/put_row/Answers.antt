-- The values in front, then the last.
use mathlib.Core.Path.{sym, ap, ◌∙◌}
use mathlib.Core.List.{List, [], ◌∷◌, ◌++◌}
use Prim.Native.Nat.{ℕ}
use Rattle.std.proofs.lemmas.List.{take_all}
use Rattle.sheet.specs.Text.{newline}
use Rattle.base.specs.Lists.{concat_map}
use Rattle.answer.specs.Text.{decimal, row_line}
use Rattle.answer_write.proofs.Laws.Texts.{extends_as, extends_then}
use Rattle.answer_text.proofs.Laws.Rows.{spaced, row_by_values}
use Rattle.answer_text.proofs.rows.put_row.Goals as goal

pub returns : goal.returns
returns c =
    let last = c.in-Some.last.now in
    extends_as _ _ _ _
    (ap (λ (l : List ℕ). concat_map spaced l ++ (decimal last ++ (newline ∷ []))) (take_all c.loop-value.value-index c.in-Some.front.now c.loop-value-test.false)
    ∙ row_by_values c.in-Some.front.now last ∙ ap row_line (sym c.in-Some.ensures.cases.0))
    (extends_then _ _ _ _ _ c.loop-value.invariant c.put_value-2.ensures)
