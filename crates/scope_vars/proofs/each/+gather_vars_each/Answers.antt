-- The chain goes on to later rows only (`each_row`).
use mathlib.Core.List.{List}
use native.Mathlib.Omega.{arith}
use Rattle.scope.specs.Scopes.{Scope}
use Rattle.scope.specs.Gather.{gather_vars}
use Rattle.scope_walk.specs.Inner.Sheets.{sheet_at}
use Rattle.scope_walk.proofs.Laws.Walking.{chain_call}
use Rattle.scope_state.proofs.Laws.Chains.{each_member_none, each_row}
use Rattle.scope_vars.proofs.each.+gather_vars_each.Goals as goal

pub returns-then-row-eq0 : goal.returns-then-row-eq0
returns-then-row-eq0 t c =
    let a = c.args in
    each_member_none a.tables.now a.outer.now c.requires.accepted (λ (parents : List Scope). gather_vars (sheet_at a.tables.now) parents a.can_shadow) a.row c.if-row-eq0.true
    a.scope a.spans.now

pub gather_vars_each-requires : goal.gather_vars_each-requires
gather_vars_each-requires t c =
    let pre = c.requires in
    let k = chain_call _ pre.accepted _ c.if-row-eq0.false pre.row_in t c.decreases _ c.next_at-next.ensures in (
      k.0,
      record { accepted = pre.accepted; outer-room = pre.outer-room; row_in = k.1; spans-room = omega arith },
    )

pub returns : goal.returns
returns t c =
    let a = c.args in
    each_row a.tables.now a.outer.now c.requires.accepted (λ (parents : List Scope). gather_vars (sheet_at a.tables.now) parents a.can_shadow) a.row
    c.if-row-eq0.false c.requires.row_in _ c.next_at-next.ensures _ _ _ _ _ _ c.gather_vars-s.ensures c.gather_vars_each.ensures
