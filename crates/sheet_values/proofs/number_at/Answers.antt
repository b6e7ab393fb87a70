-- Each way out is one of the laws: too large a value, digits that are no number, or a number.
use Rattle.sheet_values.proofs.Laws.NumberLaws.{number_reading_next, reading-over, reading-unfit, reading-done}
use mathlib.Core.Path.{sym, ◌∙◌}
use Rattle.sheet_values.proofs.number_at.Goals as goal

pub returns-then-value-gt-LARGEST : goal.returns-then-value-gt-LARGEST
returns-then-value-gt-LARGEST c =
    reading-over _ _ c.loop-digit.invariant c.in-Some.ensures.value c.if-value-gt-LARGEST.true

pub loop-digit-preserved : goal.loop-digit-preserved
loop-digit-preserved c =
    number_reading_next _ _ c.loop-digit.invariant c.in-Some.ensures.value c.if-value-gt-LARGEST.false

pub returns-then-not-is_plain : goal.returns-then-not-is_plain
returns-then-not-is_plain c =
    reading-unfit _ _ c.loop-digit.invariant c.in_default.ensures.value (sym c.is_plain.ensures ∙ c.if-not-is_plain.true)

pub returns : goal.returns
returns c = reading-done _ _ c.loop-digit.invariant c.in_default.ensures.value (sym c.is_plain.ensures ∙ c.if-not-is_plain.false)
