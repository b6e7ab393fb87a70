-- The reply is made with zeros in the answer; then tables and work are zeros.
use mathlib.Core.Path.{ap, ◌∙◌}
use Prim.Native.Nat.{ℕ}
use lib.ListN.{length, replicate}
use Rattle.call.proofs.Laws.Whole.{zeros_again, whole-leaves}
use Rattle.call.proofs.analyze.Goals as goal

pub reply_to-reply-requires : goal.reply_to-reply-requires
reply_to-reply-requires c =
    zeros_again _ (length c.args.answer.now) c.clear.ensures

pub returns : goal.returns
returns c =
    let replied = c.reply_to-reply in
    whole-leaves _ _ _ _ _ _ c.clear.auto.buffer _ _ replied.ensures _ _
    (c.clear-2.ensures ∙ ap (λ (n : ℕ). replicate n 0) replied.auto.tables)
    (c.clear-3.ensures ∙ ap (λ (n : ℕ). replicate n 0) replied.auto.work)
