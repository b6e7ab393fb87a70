-- The loop's invariant: the cells are those of the first k rows.
use mathlib.Core.Path.{◌≡◌}
use lib.ListN.{length}
use Rattle.names_width.specs.Inner.Widths.{row_words}
use Rattle.order_rows.specs.Inner.Links.{LinkedTo}
use Rattle.order_rows.proofs.links.link.Given as goal

abbrev pub invariant-loop-k : goal.invariant-loop-k
invariant-loop-k l =
    (length l.links.first ≡ 128) × (length l.links.next ≡ 640) × LinkedTo (row_words l.rows.width) l.rows.words.now l.links.first l.links.next l.k
