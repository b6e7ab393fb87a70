-- The chain goes on to later statements only (`count-row`).
use native.Mathlib.Omega.{arith}
use Rattle.scope_gather.proofs.Laws.Queries.{next_stmt}
use Rattle.answer_schedule.proofs.Laws.Counts.{count_none, count-row}
use Rattle.answer_schedule.proofs.count.+count_from.Goals as goal

pub returns-then-row-eq0 : goal.returns-then-row-eq0
returns-then-row-eq0 m c =
    count_none c.args.tables.now c.requires.0 c.args.row c.args.seen c.if-row-eq0.true

pub statement_at-st-requires : goal.statement_at-st-requires
statement_at-st-requires m c =
    let pre = c.requires in
    (pre.0.room, omega (arith, pre.1, pre.0.within.few-statements))

pub overflow_add-seen : goal.overflow_add-seen
overflow_add-seen m c = omega (arith, c.requires.2)

pub count_from-requires : goal.count_from-requires
count_from-requires m c =
    let pre = c.requires in
    let st = c.statement_at-st in
    let there = c.if-row-eq0.false in
    let k = next_stmt _ pre.0 c.args.row m there pre.1 c.decreases st.result st.ensures in
    (k.0, (pre.0, k.1, omega (arith, pre.2, count-row _ pre.0 c.args.row there pre.1 st.result st.ensures)))

pub returns : goal.returns
returns m c =
    let pre = c.requires in
    let st = c.statement_at-st in
    omega (
      arith,
      c.count_from.ensures,
      count-row _ pre.0 c.args.row c.if-row-eq0.false pre.1 st.result st.ensures,
    )
