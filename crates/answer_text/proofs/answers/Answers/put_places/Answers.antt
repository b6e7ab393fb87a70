use mathlib.Core.Path.{sym, ap, ◌∙◌}
use mathlib.Core.List.{[], ◌∷◌}
use Prim.Native.Nat.{ℕ, ◌/◌, ◌%◌}
use native.Mathlib.Omega.{arith}
use Rattle.answer.specs.Text.{row_line}
use Rattle.answer_write.proofs.Laws.Texts.{extends_none, extends_as}
use Rattle.answer_text.specs.Inner.Ranges.{texts}
use Rattle.answer_text.specs.Inner.Texts.{place_line}
use Rattle.answer_text.proofs.Laws.Lines.{run_first, run_next}
use Rattle.answer_text.proofs.Laws.Texts.{is_never, is_once, places-never, places-once}
use Rattle.answer_text.proofs.answers.Answers.put_places.Goals as goal

pub returns-then-eq : goal.returns-then-eq
returns-then-eq c = extends_as _ _ _ _ (sym (places-never _ _ _ (is_never _ _ c.state.ensures c.if-eq.ensures))) (extends_none _)

pub loop-k-init : goal.loop-k-init
loop-k-init c = run_first _ _ 0

-- The place that is read is the query's place k.
pub loop-k-preserved : goal.loop-k-preserved
unfolding place_line
loop-k-preserved c =
    let k = c.loop-k.k in
    run_next _ _ 0 k (omega arith) _ _ c.loop-k.invariant
    (extends_as _ _ _ _ (ap (λ (n : ℕ). row_line (c.args.q ∷ k ∷ (n / 2) ∷ (n % 2) ∷ [])) c.place-place.ensures) c.put_row.ensures)

pub returns : goal.returns
returns c =
    let b = c.args.self.blocks in
    extends_as _ _ _ _
    (ap (texts (place_line b.width b.words.now c.args.q) 0) (omega (arith, c.count-k-end.ensures))
    ∙ sym (places-once _ _ _ (is_once _ _ c.state.ensures c.if-eq.ensures)))
    c.loop-k.invariant
