-- Each way out is one of the laws: the empty line, a line at fault, or none.
use borrow.Author.Rules.{rules}
use Rattle.sheet_sections.proofs.Laws.Blocks.{block_reading_first, reading-ended, reading-end, reading-fault, block_reading_next}
use Rattle.sheet_sections.proofs.rows_at.Goals as goal

pub loop-next-init : goal.loop-next-init
loop-next-init c = block_reading_first _ _ _ _ c.requires.0

pub returns-then-s-next-eq10 : goal.returns-then-s-next-eq10
returns-then-s-next-eq10 c = reading-ended _ _ _ _ c.loop-next.invariant c.loop-next-test.true c.if-s-next-eq10.true

pub returns-in_default : goal.returns-in_default
returns-in_default c =
    reading-fault _ _ _ _ c.loop-next.invariant c.loop-next-test.true c.if-s-next-eq10.false c.in_default.ensures

pub loop-next-preserved : goal.loop-next-preserved
loop-next-preserved c =
    block_reading_next _ _ _ _ c.loop-next.invariant c.loop-next-test.true c.if-s-next-eq10.false _ _ c.in-Some.ensures (search rules)

pub returns : goal.returns
returns c = reading-end _ _ _ _ c.loop-next.invariant c.loop-next-test.false
