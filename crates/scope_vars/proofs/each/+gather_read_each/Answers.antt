-- The chain goes on to later rows only (`each_row`).
use mathlib.Core.List.{List}
use native.Mathlib.Omega.{arith}
use Rattle.scope.specs.Scopes.{Scope}
use Rattle.scope.specs.Gather.{gather_read}
use Rattle.scope_walk.specs.Inner.Sheets.{sheet_at}
use Rattle.scope_walk.proofs.Laws.Walking.{chain_call}
use Rattle.scope_state.proofs.Laws.Chains.{each_member_none, each_row}
use Rattle.scope_vars.proofs.each.+gather_read_each.Goals as goal

pub returns-then-row-eq0 : goal.returns-then-row-eq0
returns-then-row-eq0 m c =
    let a = c.args in
    each_member_none a.tables.now a.outer.now c.requires.accepted (λ (parents : List Scope). gather_read (sheet_at a.tables.now) parents) a.row c.if-row-eq0.true
    a.scope a.spans.now

pub gather_read_each-requires : goal.gather_read_each-requires
gather_read_each-requires m c =
    let pre = c.requires in
    let k = chain_call _ pre.accepted _ c.if-row-eq0.false pre.row_in m c.decreases _ c.next_at-next.ensures in (
      k.0,
      record {
        accepted = pre.accepted;
        outer-room = pre.outer-room;
        row_in = k.1;
        spans-room = omega (arith, pre.spans-room, c.gather_read-s.auto.spans);
      },
    )

pub returns : goal.returns
returns m c =
    let a = c.args in
    each_row a.tables.now a.outer.now c.requires.accepted (λ (parents : List Scope). gather_read (sheet_at a.tables.now) parents) a.row
    c.if-row-eq0.false c.requires.row_in _ c.next_at-next.ensures _ _ _ _ _ _ c.gather_read-s.ensures c.gather_read_each.ensures
