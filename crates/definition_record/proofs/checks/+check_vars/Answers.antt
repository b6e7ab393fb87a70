-- The chain goes on to later rows only (`vars-row`).
use mathlib.Core.Path.{◌≡◌, ap, ◌∙◌}
use Prim.Native.Nat.{ℕ}
use Rattle.sheet.specs.declared.Row.{Row}
use Rattle.sheet.specs.Inner.Sheet.{row_at}
use Rattle.sheet.proofs.Laws.Sheet.{row-fields}
use Rattle.scope_walk.proofs.Laws.Walking.{row_low, low-name, chain_call}
use Rattle.definition_state.specs.declared.Progress.{Progress}
use Rattle.definition_record.specs.Inner.Checks.{VarsChecked}
use Rattle.definition_record.proofs.Laws.Checks.{vars-none, vars-row}
use Rattle.definition_record.proofs.checks.+check_vars.Goals.{After-check_var-q, After-row_at-w}
use Rattle.definition_record.proofs.checks.+check_vars.Goals as goal

pub returns-then-row-eq0 : goal.returns-then-row-eq0
returns-then-row-eq0 m c =
    vars-none _ c.requires.0 _ c.if-row-eq0.true _ _

pub row_at-w-requires : goal.row_at-w-requires
row_at-w-requires m c =
    let pre = c.requires in
    (pre.0.room, row_low _ pre.0 _ c.if-row-eq0.false pre.1)

-- The row that was read.
row_is : (m : ℕ) (c : After-row_at-w m)
    → c.row_at-w.result ≡ row_at c.args.tables.now c.args.row
row_is m c = c.row_at-w.ensures ∙ row-fields _ _

pub check_var-q-requires : goal.check_var-q-requires
check_var-q-requires m c =
    let pre = c.requires in
    (rw (row_is m (goal.at.check_var-q-requires m c).After-row_at-w) (low-name _ pre.0 _ c.if-row-eq0.false pre.1), pre.2)

-- The turn of a row, with the rest of its chain.
row_is-at-After-check_var-q : (m : ℕ) (c : After-check_var-q m)
    → c.row_at-w.result ≡ row_at c.args.tables.now c.args.row
row_is-at-After-check_var-q m c = c.row_at-w.ensures ∙ row-fields _ _

turned : (m : ℕ) (c : After-check_var-q m) (p : Progress)
    →
    let a = c.args in
    VarsChecked a.tables.now c.next_of-next.result c.check_var-q.result a.firsts.now p → VarsChecked a.tables.now a.row a.p a.firsts.now p
turned m c p rest =
    let pre = c.requires in
    vars-row _ pre.0 _ c.if-row-eq0.false pre.1 _ (row_is-at-After-check_var-q m c) _ c.next_of-next.ensures _ _ _ _ c.check_var-q.ensures rest

pub returns-then-next-eq0 : goal.returns-then-next-eq0
returns-then-next-eq0 m c =
    turned m (goal.at.returns-then-next-eq0 m c).After-check_var-q _ (vars-none _ c.requires.0 _ c.if-next-eq0.true _ _)

pub check_vars-requires : goal.check_vars-requires
check_vars-requires m c =
    let pre = c.requires in
    let k = chain_call _ pre.0 _ c.if-row-eq0.false pre.1 m c.decreases _ (c.next_of-next.ensures ∙ ap (λ (w : Row). w.next) (row_is m (goal.at.check_vars-requires m c).After-row_at-w)) in
    (k.0, (pre.0, k.1, pre.2))

pub returns : goal.returns
returns m c = turned m (goal.at.returns m c).After-check_var-q _ c.check_vars.ensures
