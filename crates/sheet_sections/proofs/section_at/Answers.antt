-- Each way out is one of the laws: no heading, the section, or a row at fault.
use mathlib.Core.Path.{◌≡◌, sym, ◌∙◌}
use mathlib.Core.Bool.{true}
use lib.ListN.{drop}
use Rattle.sheet.specs.Text.{lines}
use Rattle.sheet.specs.Inner.Headings.{has_line}
use Rattle.sheet_sections.proofs.Laws.Sections.{rows_start, section-none, section-fault, section-good}
use Rattle.sheet_sections.proofs.section_at.Goals.{Else-not-line_is}
use Rattle.sheet_sections.proofs.section_at.Goals as goal

-- Behind the test of the heading, it is there.
headed : (c : Else-not-line_is)
    → let start = c.args in
    has_line start.heading.now (lines (drop start.p.next start.s.now)) ≡ true
headed c = sym c.line_is.ensures ∙ c.if-not-line_is.false

pub returns-then-not-line_is : goal.returns-then-not-line_is
returns-then-not-line_is c =
    section-none _ _ _ c.requires.sound_progress _ (sym c.line_is.ensures ∙ c.if-not-line_is.true)

pub rows_at-requires : goal.rows_at-requires
rows_at-requires c =
    let pre = c.requires in
    (rows_start _ _ _ pre.sound_progress (headed (goal.at.rows_at-requires c).Else-not-line_is), pre.area_fits.0, pre.area_fits.1)

pub returns-in-Ok : goal.returns-in-Ok
returns-in-Ok c =
    section-good _ _ _ c.requires.sound_progress (headed (goal.at.returns-in-Ok c).Else-not-line_is) _ _ _ _ c.in-Ok.ensures

pub returns-in-Err : goal.returns-in-Err
returns-in-Err c =
    section-fault _ _ _ c.requires.sound_progress (headed (goal.at.returns-in-Err c).Else-not-line_is) _ _ c.in-Err.ensures
