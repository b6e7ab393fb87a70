use Prim.Native.Nat.{◌<◌}
use native.Mathlib.Omega.{arith}
use lib.ListN.{length-set}
use borrow.Author.Rules.{rules}
use Rattle.names_width.specs.Inner.Widths.{row_words}
use Rattle.order.specs.Call.{row_count}
use Rattle.order_rows.proofs.Laws.LinkLaws.{linked-first, linked-next}
use Rattle.order_rows.proofs.links.link.Goals as goal

pub loop-k-init : goal.loop-k-init
loop-k-init c = let zeros = c.requires.links_zeros in (search rules, search rules, linked-first _ _ _ _ (λ i. (zeros i).0) (λ i. (zeros i).1))

pub loop-k-preserved : goal.loop-k-preserved
loop-k-preserved c =
    let inv = c.loop-k.invariant in
    let rows = c.args.rows in
    let there : c.loop-k.k < row_count (row_words rows.width) rows.words.now = omega (arith, c.loop-k-test.true, c.len-k-end.ensures) in
    rw (length-set, length-set, c.statement-statement.ensures)
    (inv.0, inv.1, linked-next _ _ _ _ _ inv.2 (omega (arith, there, c.requires.few_rows)) (c.requires.statements_low _ there) inv.0 inv.1)
