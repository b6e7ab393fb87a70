-- The line starts otherwise; or the byte behind the heading decides.
use mathlib.Core.Path.{◌∙◌}
use Rattle.sheet_sections.proofs.Laws.Lines.{tail-is}
use Rattle.sheet_sections.proofs.Laws.Headings.{heading-none, heading-is}
use Rattle.sheet_sections.proofs.line_is.Goals as goal

pub returns-in_default : goal.returns-in_default
returns-in_default c =
    let start = c.args in
    heading-none start.heading.now _ c.requires.1 (rw (tail-is start.s.now start.at) at c.in_default.ensures.cases)

pub returns : goal.returns
returns c =
    let start = c.args in
    let stripped = rw (tail-is start.s.now start.at) at c.in-Some.ensures.cases in
    c.starts_with.ensures.value ∙ rw stripped.1 (heading-is start.heading.now _ c.requires.1 stripped.0)
