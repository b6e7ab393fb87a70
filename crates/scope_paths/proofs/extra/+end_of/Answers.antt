-- The chain goes on to later rows only (`end_row`).
use mathlib.Core.Path.{sym, subst}
use Prim.Native.Nat.{ℕ, ◌<◌}
use native.Mathlib.Omega.{arith}
use Rattle.scope_walk.specs.Inner.Walking.{remains}
use Rattle.scope_walk.proofs.Laws.Walking.{few_remain, Falls, chain_call}
use Rattle.scope_paths.specs.Inner.Extra.{EndAt}
use Rattle.scope_paths.proofs.Laws.Extra.{end_at_none, end_row}
use Rattle.scope_paths.proofs.extra.+end_of.Goals.{After-next_at-next}
use Rattle.scope_paths.proofs.extra.+end_of.Goals as goal

pub returns-then-row-eq0 : goal.returns-then-row-eq0
returns-then-row-eq0 m c =
    end_at_none c.args.tables.now c.requires.0 c.args.row c.if-row-eq0.true

ready : (m : ℕ) (c : After-next_at-next m) → Falls c.args.tables.now m c.next_at-next.result
ready m c =
    chain_call _ c.requires.0 _ c.if-row-eq0.false c.requires.1 m c.decreases _ c.next_at-next.ensures

pub end_of-end-requires : goal.end_of-end-requires
end_of-end-requires m c =
    let k = ready m c in
    (k.0, (c.requires.0, k.1))

pub after-requires : goal.after-requires
after-requires m c = omega (arith, c.end_of-end.ensures.few, few_remain _ c.requires.0 c.next_at-next.result)

pub returns : goal.returns
returns m c =
    let a = c.args in
    let less = subst (λ (k : ℕ). remains a.tables.now c.next_at-next.result < k) (sym c.decreases) (ready m (goal.at.returns m c).After-next_at-next).0 in
    subst (EndAt a.tables.now a.row) (sym c.after.ensures)
    (end_row a.tables.now c.requires.0 a.row c.if-row-eq0.false c.requires.1 _ c.next_at-next.ensures less _ c.end_of-end.ensures)
