-- The chain goes on to later rows only (`locals-row`).
use mathlib.Core.Path.{◌≡◌, ap, ◌∙◌}
use Prim.Native.Nat.{ℕ}
use native.Mathlib.Omega.{arith}
use Rattle.sheet.specs.declared.Row.{Row}
use Rattle.sheet.specs.Inner.Sheet.{row_at}
use Rattle.sheet.proofs.Laws.Sheet.{row-fields}
use Rattle.scope_walk.proofs.Laws.Walking.{low-name, chain_call}
use Rattle.scope_gather.proofs.Laws.Locals.{locals-none, locals-row}
use Rattle.scope_gather.proofs.locals.+add_locals.Goals.{After-row_at-w}
use Rattle.scope_gather.proofs.locals.+add_locals.Goals as goal

pub returns-then-row-eq0 : goal.returns-then-row-eq0
returns-then-row-eq0 m c =
    let a = c.args in
    locals-none a.tables.now c.requires.0 a.row c.if-row-eq0.true a.scope a.spans.now

-- The row that was read.
row_is : (m : ℕ) (c : After-row_at-w m)
    → c.row_at-w.result ≡ row_at c.args.tables.now c.args.row
row_is m c = c.row_at-w.ensures ∙ row-fields _ _

pub local_step-s-requires : goal.local_step-s-requires
local_step-s-requires m c =
    let pre = c.requires in
    (rw (row_is m (goal.at.local_step-s-requires m c).After-row_at-w) (low-name _ pre.0 _ c.if-row-eq0.false pre.1), pre.2)

pub add_locals-requires : goal.add_locals-requires
add_locals-requires m c =
    let pre = c.requires in
    let k = chain_call _ pre.0 _ c.if-row-eq0.false pre.1 m c.decreases _ (c.next_of-next.ensures ∙ ap (λ (w : Row). w.next) (row_is m (goal.at.add_locals-requires m c).After-row_at-w)) in
    (k.0, (pre.0, k.1, omega (arith, pre.2, c.local_step-s.auto.spans)))

pub returns : goal.returns
returns m c =
    let a = c.args in
    locals-row a.tables.now c.requires.0 a.row c.if-row-eq0.false c.requires.1 _ (row_is m (goal.at.returns m c).After-row_at-w) _ c.next_of-next.ensures
    _ _ _ _ _ _ c.local_step-s.ensures c.add_locals.ensures
