-- Before each turn the words hold the rows of the records so far.
use mathlib.Core.Path.{◌∙◌}
use borrow.Author.Rules.{rules}
use Rattle.order_records.proofs.Laws.Puts.{rows_next}
use Rattle.order_records.proofs.rows_of.Goals as goal

pub loop-i-preserved : goal.loop-i-preserved
loop-i-preserved c =
    let put = c.put_row.ensures in
    (put.long ∙ c.loop-i.invariant.0, rows_next c.args.records.now c.loop-i.words _ c.loop-i.i (search rules) put c.loop-i.invariant.1)
