-- The loop's invariant: the sets are those of the first k rows.
use mathlib.Core.Path.{◌≡◌}
use lib.ListN.{length}
use Rattle.names_width.specs.Inner.Widths.{row_words}
use Rattle.order_rows.specs.Inner.Masks.{MaskedTo}
use Rattle.order_rows.proofs.masks.mask.Given as goal

abbrev pub invariant-loop-k : goal.invariant-loop-k
invariant-loop-k l = (length l.words ≡ 8) × MaskedTo (row_words l.rows.width) l.rows.words.now l.masks l.words l.k
