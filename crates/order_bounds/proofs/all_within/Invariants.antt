-- The loop's invariant: whether the definitions from row k on pass decides.
use mathlib.Core.Path.{◌≡◌}
use Rattle.names_width.specs.Widths.{limits}
use Rattle.order_bounds.proofs.Laws.RowTests.{within_from}
use Rattle.order_bounds.proofs.all_within.Given as goal

abbrev pub invariant-loop-k : goal.invariant-loop-k
invariant-loop-k l =
    within_from (limits l.rows.width) l.rows.words.now l.n l.k ≡ within_from (limits l.rows.width) l.rows.words.now l.n 0
