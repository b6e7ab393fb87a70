-- The heading, the row and an empty line, one behind the other, in the lent bytes.
use mathlib.Core.Path.{◌≡◌, sym, ap, ◌∙◌, subst}
use mathlib.Core.List.{List}
use Prim.Native.Nat.{ℕ}
use Rattle.sheet.specs.Text.{bytes}
use Rattle.answer.specs.Text.{refusal_text}
use Rattle.answer_write.specs.Inner.Writes.{Puts}
use Rattle.print.proofs.Laws.Printed as laws
use Rattle.print.proofs.printing.put_refusal.Goals as goal

pub returns : goal.returns
unfolding bytes
returns c =
    let a = c.args in
    let new = c.new-text in
    let last = c.put in
    let refusal = refusal_text a.number a.line a.col in
    subst (λ (b : List ℕ). Puts a.answer.now 0 refusal b c.end.result)
    (sym (c.answer-1.given.1.1 (sym (last.ensures.same ∙ c.put_row.ensures.same ∙ c.put_bytes.ensures.same ∙ new.ensures.same))))
    (subst (λ (n : ℕ). Puts a.answer.now 0 refusal last.new.self.bytes.now n) (sym c.end.ensures)
    (laws.put_refusal a.answer.now a.number a.line a.col new.result _ _ last.new.self new.ensures.bytes new.ensures.start c.put_bytes.ensures c.put_row.ensures last.ensures))
