-- The sections, one behind the other, are the answer.
use Rattle.std.proofs.Common.{rules}
use Rattle.sheet.specs.Text.{bytes}
use Rattle.answer_write.proofs.Laws.Texts.{extends_then}
use Rattle.answer_text.specs.Inner.Texts.{query_text, places_text, sets_text}
use Rattle.answer_text.proofs.Laws.Sections.{put_all}
use Rattle.answer_text.proofs.put_answer.Goals as goal

pub returns : goal.returns
unfolding bytes
returns c =
    let b = c.args.answers.blocks in
    put_all b.width b.words.now c.args.queries c.requires _ _
    (extends_then _ _ _ _ _ (c.put_section.ensures (query_text b.width b.words.now) (λ t u q l h r. search rules))
    (extends_then _ _ _ _ _ (c.put_section-2.ensures (places_text b.width b.words.now) (λ t u q l h r. search rules))
    (c.put_section-3.ensures (sets_text b.width b.words.now) (λ t u q l h r. search rules))))
