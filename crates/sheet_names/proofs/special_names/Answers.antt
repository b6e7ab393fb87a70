use mathlib.Core.Path.{sym, ◌∙◌}
use native.Mathlib.Omega.{arith}
use borrow.Author.Tests.{eqb-true, eqb-false}
use Rattle.sheet.specs.Text.{bytes}
use Rattle.sheet.proofs.Laws.LineLaws.{line-part}
use Rattle.sheet_names.proofs.Laws.FirstSection.{names-inside}
use Rattle.sheet_names.proofs.Laws.Finding.{finding_first, finding_line, finding_next, finding_end}
use Rattle.sheet_names.proofs.special_names.Goals as goal

pub loop-next-init : goal.loop-next-init
loop-next-init c = finding_first _ c.requires

pub skip_line-requires : goal.skip_line-requires
skip_line-requires c = let inside = names-inside c.loop-next.invariant.follow in omega arith

pub loop-next-preserved : goal.loop-next-preserved
unfolding bytes
loop-next-preserved c =
    let part = line-part c.args.s.now c.loop-next.at c.in-Some.next c.in-Some.ensures in
    finding_next _ c.loop-next.invariant (eqb-false _ 0 (rw part at (sym c.is_empty.ensures ∙ c.if-is_empty.false))) _ c.in-Some.ensures _ _ _ (rw part at c.find-blank.ensures)
    (rw part at c.find-input.ensures) (rw part at c.find-data.ensures)

pub returns-then-is_empty : goal.returns-then-is_empty
returns-then-is_empty c =
    let part = line-part c.args.s.now c.loop-next.at c.in-Some.next c.in-Some.ensures in
    finding_end _ c.loop-next.invariant (eqb-true _ 0 (rw part at (sym c.is_empty.ensures ∙ c.if-is_empty.true)))

pub returns-in_default : goal.returns-in_default
returns-in_default c = absurd (finding_line _ c.loop-next.invariant c.in_default.ensures)
