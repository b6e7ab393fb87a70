-- Nothing exists around the outer query, and the bases are set.
use native.Mathlib.Omega.{arith}
use Rattle.definition_cycle.proofs.Laws.Budgets.{work-fits}
use Rattle.definition_cycle.proofs.Laws.Snippet.{nothing-around, outer-asks, snippet_analysed}
use Rattle.definition_query.proofs.snippet.analyze_sheet.Goals as goal

pub set_bases-requires : goal.set_bases-requires
set_bases-requires c =
    let pre = c.requires in
    (pre.0.accepted, pre.0.names-few, (work-fits c.args.width _ 0 pre.0.work-room (omega arith)).enough)

pub analyze_query-requires : goal.analyze_query-requires
analyze_query-requires c =
    let pre = c.requires in
    let bases = c.set_bases in
    (pre.0.accepted, omega arith, outer-asks _ _ pre.0.accepted _ nothing-around _ bases.ensures pre.1 (omega (arith, pre.0.work-room, bases.auto.work)))

pub returns : goal.returns
returns c =
    let pre = c.requires in
    let bases = c.set_bases in
    snippet_analysed _ _ pre.0.accepted _ nothing-around _ bases.ensures _ _ c.analyze_query.ensures
