-- A turn's row is the next one of the list.
use mathlib.Core.Path.{◌≡◌, ◌∙◌}
use native.Mathlib.Omega.{arith}
use lib.ListN.{get_or}
use Rattle.sheet.specs.Inner.Sheet.{row_at}
use Rattle.sheet.proofs.Laws.Sheet.{row-fields}
use Rattle.definition_comprs.specs.Inner.Lists.{ComprRow}
use Rattle.definition_comprs.proofs.Laws.Lists.{compr-query, compr-is}
use Rattle.definition_comprs.proofs.Laws.Used.{onwards_first, onwards_next, onwards_last}
use Rattle.definition_comprs.proofs.used.comprs_used.Goals.{After-row_at-w}
use Rattle.definition_comprs.proofs.used.comprs_used.Goals as goal

pub loop-row-init : goal.loop-row-init
loop-row-init c = let a = c.args in onwards_first a.tables.now a.width a.scope a.work.now a.rows.now a.names

-- The row that stands there.
listed : (c : After-row_at-w) → ComprRow c.args.tables.now (λ q. ⊥) (get_or c.args.rows.now c.loop-row.row-index 0)
listed c = c.requires.comprehensions _ (omega arith) (omega (arith, c.loop-row-test.true))

row_is : (c : After-row_at-w) → c.row_at-w.result ≡ row_at c.args.tables.now (get_or c.args.rows.now c.loop-row.row-index 0)
row_is c = c.row_at-w.ensures ∙ row-fields _ _

pub compr_step-used-requires : goal.compr_step-used-requires
compr_step-used-requires c =
    let pre = c.requires in
    let here = (goal.at.compr_step-used-requires c).After-row_at-w in
    let q = compr-query _ pre.accepted _ _ (listed here) _ (row_is here) in
    record { room = pre.answers-room; from = q.0; to = q.1 }

pub loop-row-preserved : goal.loop-row-preserved
loop-row-preserved c =
    let a = c.args in
    let here = (goal.at.loop-row-preserved c).After-row_at-w in
    onwards_next a.tables.now a.width a.scope a.work.now a.rows.now a.names _ _ (omega (arith, c.loop-row-test.true)) c.loop-row.invariant
    _ (compr-is _ c.requires.accepted _ _ (listed here) _ (row_is here)) _ c.compr_step-used.ensures

pub returns : goal.returns
returns c =
    let a = c.args in
    onwards_last a.tables.now a.width a.scope a.work.now a.rows.now a.names _ c.loop-row.row-index
    (omega (arith, c.loop-row-test.false, c.loop-row.auto.row-index-end)) c.loop-row.invariant
