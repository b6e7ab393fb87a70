-- Each way out is one of the laws.
use mathlib.Core.Path.{sym, ◌∙◌}
use Rattle.definition_record.proofs.Laws.FirstUse.{check_fault, check_none, check_after, check_before}
use borrow.Author.Rules.{rules}
use Rattle.definition_record.proofs.first.check_first_use.Goals as goal

pub returns-then-word-eq0 : goal.returns-then-word-eq0
returns-then-word-eq0 c =
    check_none c.args.w _ _ (sym c.is_sound.ensures ∙ c.if-is_sound.true) c.requires.0 c.if-word-eq0.true

pub returns-then-place-w : goal.returns-then-place-w
returns-then-place-w c =
    check_before c.args.w _ _ (sym c.is_sound.ensures ∙ c.if-is_sound.true) c.requires.0 (search rules) c.if-word-eq0.false c.if-place-w.true
    _ c.fail.ensures

pub returns-then-is_sound : goal.returns-then-is_sound
returns-then-is_sound c =
    check_after c.args.w _ _ (sym c.is_sound.ensures ∙ c.if-is_sound.true) c.requires.0 (search rules) c.if-place-w.false

pub returns : goal.returns
returns c = check_fault _ _ _ (sym c.is_sound.ensures ∙ c.if-is_sound.false)
