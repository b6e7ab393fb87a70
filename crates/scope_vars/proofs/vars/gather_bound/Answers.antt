-- Each way out is one of the laws.
use mathlib.Core.Path.{◌∙◌}
use native.Mathlib.Omega.{arith}
use Rattle.sheet.proofs.Laws.Sheet.{row-fields}
use Rattle.scope_walk.proofs.Laws.Walking.{first-low, second-low}
use Rattle.scope_vars.proofs.Laws.Vars.{bound-none, bound_assign, bound-other}
use Rattle.scope_vars.proofs.vars.gather_bound.Goals as goal

pub returns-then-row-eq0 : goal.returns-then-row-eq0
returns-then-row-eq0 c =
    let a = c.args in
    bound-none a.tables.now a.outer.now c.requires.accepted a.row c.if-row-eq0.true a.rest a.can_shadow a.scope a.spans.now

pub gather_assigned_vars-s-requires : goal.gather_assigned_vars-s-requires
gather_assigned_vars-s-requires c =
    let pre = c.requires in
    record {
      accepted = pre.accepted;
      outer-room = pre.outer-room;
      row_in = first-low _ pre.accepted _ c.if-row-eq0.false pre.row_in _ (c.row_at-w.ensures ∙ row-fields _ _);
      spans-room = pre.spans-room;
    }

pub gather_assigned_vars-requires : goal.gather_assigned_vars-requires
gather_assigned_vars-requires c =
    let pre = c.requires in
    let low = second-low _ pre.accepted _ c.if-row-eq0.false pre.row_in _ (c.row_at-w.ensures ∙ row-fields _ _) in
    record {
      accepted = pre.accepted;
      outer-room = pre.outer-room;
      row_in = low;
      spans-room = omega (arith, pre.spans-room, c.gather_assigned_vars-s.auto.spans);
    }

pub returns-then-is_assign : goal.returns-then-is_assign
returns-then-is_assign c =
    let a = c.args in
    bound_assign a.tables.now a.outer.now c.requires.accepted a.row c.if-row-eq0.false c.requires.row_in a.rest a.can_shadow
    c.row_at-w.result (c.row_at-w.ensures ∙ row-fields _ _) _ c.is_assign.ensures c.if-is_assign.true
    _ c.is_col_eq-shadows.ensures _ _ _ _ _ _ c.gather_assigned_vars-s.ensures c.gather_assigned_vars.ensures

pub returns : goal.returns
returns c =
    let a = c.args in
    bound-other a.tables.now a.outer.now c.requires.accepted a.row c.if-row-eq0.false c.requires.row_in a.rest a.can_shadow
    c.row_at-w.result (c.row_at-w.ensures ∙ row-fields _ _) _ c.is_assign.ensures c.if-is_assign.false
    _ _ _ _ c.gather_assigned_vars-2.ensures
