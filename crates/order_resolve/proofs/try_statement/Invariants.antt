-- The loop's invariant: the names known are as they were, and the set seen is what passes have gathered (`Trying`). A pass that
-- finds something leaves fewer names missing.
use mathlib.Core.Path.{◌≡◌}
use lib.ListN.{length}
use Rattle.order.specs.Inner.Count.{missing}
use Rattle.base.specs.Sets.{member}
use Rattle.names_width.specs.Inner.Widths.{row_words}
use Rattle.order_resolve.proofs.Laws.Trying.{Trying}
use Rattle.order_resolve.proofs.try_statement.Given as goal

abbrev pub invariant-loop-seen : goal.invariant-loop-seen
invariant-loop-seen l =
    (l.known ≡ l.initial.known) × (length l.known.words ≡ 8) × Trying (row_words l.rows.width) l.rows.words.now l.statement l.initial.known.words l.seen.words

abbrev pub decreases-loop-seen : goal.decreases-loop-seen
decreases-loop-seen l = missing 512 (member l.seen.words)
