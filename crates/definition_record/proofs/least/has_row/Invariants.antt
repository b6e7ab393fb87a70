-- The loop's invariant: no row in front of j is the statement's.
use Prim.Native.Nat.{◌≤◌}
use Rattle.names_width.specs.Inner.Widths.{row_words}
use Rattle.definition_record.specs.Inner.Least.{NoRow}
use Rattle.definition_record.proofs.least.has_row.Given as goal

abbrev pub invariant-loop-j : goal.invariant-loop-j
invariant-loop-j l = (l.fn.first ≤ l.j) × NoRow (row_words l.rows.width) l.statement l.rows.words.now l.fn.first l.j
