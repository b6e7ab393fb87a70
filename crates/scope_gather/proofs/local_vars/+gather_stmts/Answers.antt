-- The chain goes on to later statements only (`step_row`).
use mathlib.Core.Path.{sym, subst}
use native.Mathlib.Omega.{arith}
use Rattle.scope_gather.specs.Inner.Statements.{NamedParts}
use Rattle.scope_gather.proofs.Laws.Queries.{named-at, next_stmt, step-none, step_row}
use Rattle.scope_gather.proofs.local_vars.+gather_stmts.Goals as goal

pub returns-then-row-eq0 : goal.returns-then-row-eq0
returns-then-row-eq0 m c =
    let a = c.args in
    step-none a.tables.now a.outer.now c.requires.accepted a.row c.if-row-eq0.true a.scope a.spans.now

pub gather_stmt-s-requires : goal.gather_stmt-s-requires
gather_stmt-s-requires m c =
    let pre = c.requires in
    record {
      accepted = pre.accepted;
      outer-room = pre.outer-room;
      named = subst (NamedParts c.args.tables.now) (sym c.statement_at-st.ensures) (named-at _ pre.accepted _ c.if-row-eq0.false pre.row_in);
      spans-room = pre.spans-room;
    }

pub gather_stmts-requires : goal.gather_stmts-requires
gather_stmts-requires m c =
    let pre = c.requires in
    let k = next_stmt _ pre.accepted c.args.row m c.if-row-eq0.false pre.row_in c.decreases c.statement_at-st.result c.statement_at-st.ensures in (
      k.0,
      record {
        accepted = pre.accepted;
        outer-room = pre.outer-room;
        row_in = k.1;
        spans-room = omega (arith, pre.spans-room, c.gather_stmt-s.auto.spans);
      },
    )

pub returns : goal.returns
returns m c =
    let a = c.args in
    step_row a.tables.now a.outer.now c.requires.accepted a.row c.if-row-eq0.false c.requires.row_in c.statement_at-st.result
    c.statement_at-st.ensures _ _ _ _ _ _ c.gather_stmt-s.ensures c.gather_stmts.ensures
