-- The chain goes on to later rows only (`mods-row`).
use native.Mathlib.Omega.{arith}
use Rattle.scope_walk.proofs.Laws.Walking.{row_low, chain_call}
use Rattle.definition_expr.proofs.Laws.UsesMods.{listed-none, mods-none, here-ready, next-ready, mods-row}
use Rattle.definition_expr.proofs.mods.+use_mods.Goals as goal

pub returns-then-row-eq0 : goal.returns-then-row-eq0
returns-then-row-eq0 m c =
    let a = c.args in
    mods-none a.tables.now a.statement c.requires.accepted a.row c.if-row-eq0.true a.p a.names a.firsts.now a.work.now

pub next_at-next-requires : goal.next_at-next-requires
next_at-next-requires m c =
    let pre = c.requires in
    (pre.accepted.room, row_low _ pre.accepted _ c.if-row-eq0.false pre.row_in)

pub use_vars-used-requires : goal.use_vars-used-requires
use_vars-used-requires m c =
    let a = c.args in
    let pre = c.requires in (
      record {
        accepted = pre.accepted;
        row_in = pre.row_in;
        firsts_room = pre.firsts_room;
        ready = here-ready a.tables.now a.statement pre.accepted a.row c.if-row-eq0.false pre.row_in a.p a.firsts.now a.work.now pre.ready;
      },
      listed-none _ c.empty-none.ensures,
    )

pub use_mods-others-requires : goal.use_mods-others-requires
use_mods-others-requires m c =
    let a = c.args in
    let pre = c.requires in
    let k = chain_call _ pre.accepted _ c.if-row-eq0.false pre.row_in m c.decreases _ c.next_at-next.ensures in (
      k.0,
      record {
        accepted = pre.accepted;
        row_in = k.1;
        firsts_room = omega (arith, pre.firsts_room, c.use_vars-used.auto.firsts);
        ready = next-ready a.tables.now a.statement pre.accepted a.row c.if-row-eq0.false pre.row_in a.p a.firsts.now a.work.now pre.ready _ c.empty-none.ensures _ _ _ c.use_vars-used.ensures _ c.next_at-next.ensures;
      },
    )

pub shape_of-firsts : goal.shape_of-firsts
shape_of-firsts m c = omega (arith, c.use_vars-used.auto.firsts, c.use_mods-others.auto.firsts)

pub shape_of-work : goal.shape_of-work
shape_of-work m c = omega (arith, c.use_vars-used.auto.work, c.use_mods-others.auto.work)

pub returns : goal.returns
returns m c =
    let a = c.args in
    let pre = c.requires in
    mods-row a.tables.now a.statement pre.accepted a.row c.if-row-eq0.false pre.row_in a.p a.firsts.now a.work.now pre.ready _ c.empty-none.ensures _ _ _ c.use_vars-used.ensures _ c.next_at-next.ensures
    a.names _ c.union-all.ensures _ _ _ c.use_mods-others.ensures _ c.after.ensures
