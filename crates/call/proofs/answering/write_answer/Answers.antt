-- The words lent are all answers, the text stands in the lent bytes, and its end tells whether it fits.
use mathlib.Core.Path.{◌≡◌, sym, ap, ◌∙◌, subst}
use mathlib.Core.List.{List}
use Prim.Native.Nat.{ℕ}
use native.Mathlib.Omega.{arith}
use lib.ListN.{length, replicate}
use Rattle.answer.specs.Text.{answer_text}
use Rattle.answer.specs.Call.{fitting}
use Rattle.call.specs.Inner.Replies.{Replies}
use Rattle.call.proofs.Laws.Answering.{put_from, answer-fits, fits-none}
use Rattle.call.proofs.answering.write_answer.Goals as goal

pub returns-then-answer-end : goal.returns-then-answer-end
returns-then-answer-end c =
    λ schedules stored.
    let new = c.new-text in
    let put = c.put_answer in
    let back : _ ≡ put.new.text.bytes.now = c.answer-1.given.1.1 (sym (put.ensures.same ∙ new.ensures.same)) in
    fits-none c.args.width _ c.answers_of.ensures c.args.work.now _ _ c.requires.zeros _ _
    (put_from c.args.width _ _ _ new.result put.new.text new.ensures.bytes new.ensures.start put.ensures) schedules stored
    (omega (arith, c.if-answer-end.true, c.end-end.ensures, ap length back)) _
    (c.clear.ensures ∙ ap (λ (l : List ℕ). replicate (length l) 0) back)

pub returns : goal.returns
returns c =
    λ schedules stored.
    let new = c.new-text in
    let put = c.put_answer in
    let room = length c.args.answer.now in
    let back : _ ≡ put.new.text.bytes.now = c.answer-1.given.1.1 (sym (put.ensures.same ∙ new.ensures.same)) in
    subst (Replies room (fitting room (answer_text c.args.queries schedules)) (record { number = 0; line = 0; col = 0 })) (sym back)
    (answer-fits c.args.width _ c.answers_of.ensures c.args.work.now _ _ c.requires.zeros _ _
    (put_from c.args.width _ _ _ new.result put.new.text new.ensures.bytes new.ensures.start put.ensures) schedules stored
    (omega (arith, c.if-answer-end.false, c.end-end.ensures, ap length back)))
