-- Each way out is one of the laws: no name, a name in the wrong order, or the empty line.
use mathlib.Core.Path.{sym, ◌∙◌}
use Rattle.sheet.proofs.Laws.LineLaws.{line-part}
use Rattle.sheet.proofs.Laws.AnswerLaws.{unless-none, unless_line}
use Rattle.sheet_names.proofs.Laws.FirstSection.{names-line, names-inside}
use Rattle.sheet_names.proofs.Laws.Checking.{checking_first, checking_end, checking_unmade, checking_unordered, checking_next}
use Rattle.sheet_names.proofs.check_names.Goals as goal

pub loop-at-init : goal.loop-at-init
loop-at-init c = checking_first _ c.requires

pub bounds-s-at : goal.bounds-s-at
bounds-s-at c = names-inside c.loop-at.invariant.follow

pub name_at-requires : goal.name_at-requires
name_at-requires c = names-line c.loop-at.invariant.follow

pub returns-in_default : goal.returns-in_default
returns-in_default c =
    let loop = c.loop-at in
    unless_line _ _ (checking_unmade _ loop.invariant c.loop-at-test.true c.in_default.ensures) loop.invariant.some

pub returns-then-not-is_before : goal.returns-then-not-is_before
returns-then-not-is_before c =
    let loop = c.loop-at in
    let part = line-part c.args.s.now loop.at c.in-Some.next c.in-Some.ensures.ends in
    unless_line _ _ (checking_unordered _ loop.invariant c.loop-at-test.true (rw part at (sym c.is_before.ensures ∙ c.if-not-is_before.true))) loop.invariant.some

pub loop-at-preserved : goal.loop-at-preserved
loop-at-preserved c =
    let loop = c.loop-at in
    let part = line-part c.args.s.now loop.at c.in-Some.next c.in-Some.ensures.ends in
    rw part (checking_next _ loop.invariant c.loop-at-test.true c.in-Some.next c.in-Some.ensures (rw part at (sym c.is_before.ensures ∙ c.if-not-is_before.false)))

pub returns : goal.returns
returns c = unless-none _ (checking_end _ c.loop-at.invariant c.loop-at-test.false)
