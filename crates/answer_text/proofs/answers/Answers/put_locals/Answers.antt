use mathlib.Core.Path.{◌≡◌, refl, ap, ◌∙◌}
use mathlib.Core.List.{List, [], ◌∷◌}
use Prim.Native.Nat.{ℕ, ◌/◌, ◌%◌}
use native.Mathlib.Omega.{arith}
use Rattle.names.specs.Inner.Names.{Names}
use Rattle.answer.specs.Text.{row_line}
use Rattle.answer_write.proofs.Laws.Texts.{extends_as}
use Rattle.answer_text.proofs.Laws.Lines.{run_first}
use Rattle.answer_text.proofs.Laws.Listed.{lines_listed_next, lines_listed_all, local_low, local_here, local_none}
use Rattle.answer_text.proofs.answers.Answers.put_locals.Goals as goal

pub loop-x-init : goal.loop-x-init
loop-x-init c =
    let first = c.into_iter-x-iterator.ensures.into_iter_gives in
    (refl, rw (first, c.members-x-items.ensures.1) (omega arith), rw (first, c.members-x-items.ensures.1) (run_first _ _ _))

pub span-span-requires : goal.span-span-requires
span-span-requires c =
    let inv = c.loop-x.invariant in
    let b = c.args.self.blocks in
    let over = ap (λ (s : Names). s.words) (inv.0 ∙ ap (λ i. i.set) c.into_iter-x-iterator.ensures.into_iter_gives ∙ c.members-x-items.ensures.0) in
    let next = rw over at c.in-Some.ensures.steps.1.0 in
    (c.requires.0, c.requires.1, local_low b.width b.words.now c.args.q _ c.set-names.ensures c.in-Some.x next.found)

pub loop-x-preserved : goal.loop-x-preserved
loop-x-preserved c =
    let inv = c.loop-x.invariant in
    let step = c.in-Some.ensures.steps in
    let is = c.set-names.ensures in
    let over = ap (λ (s : Names). s.words) (inv.0 ∙ ap (λ i. i.set) c.into_iter-x-iterator.ensures.into_iter_gives ∙ c.members-x-items.ensures.0) in
    let next = rw over at step.1.0 in (
      step.0 ∙ inv.0,
      rw step.1.1 (omega (arith, step.1.0.high)),
      rw step.1.1 (lines_listed_next _ _ (local_none _ _ _ _ is) _ _ c.in-Some.x next _ inv.2 _ (extends_as _ _ _ _ (ap (λ (n : ℕ). row_line (c.args.q ∷ 1 ∷ c.in-Some.x ∷ (n / 65536) ∷ (n % 65536) ∷ [])) c.span-span.ensures ∙ local_here _ _ _ _ is c.in-Some.x next.found) c.put_row.ensures)),
    )

pub returns : goal.returns
returns c =
    let inv = c.loop-x.invariant in
    let over = ap (λ (s : Names). s.words) (inv.0 ∙ ap (λ i. i.set) c.into_iter-x-iterator.ensures.into_iter_gives ∙ c.members-x-items.ensures.0) in
    lines_listed_all _ _ (local_none _ _ _ _ c.set-names.ensures) _ _ (rw over at c.in-None.ensures.steps.1) inv.1 _ inv.2
