-- Each arm does what its kind asks, which goes on to later rows only: a row's turn (`checked_turn`).
use mathlib.Core.Path.{◌≡◌, refl, ◌∙◌}
use mathlib.Core.Bool.{true}
use mathlib.Core.List.{[], ◌∷◌}
use mathlib.Core.Logic.{inl, inr}
use Prim.Native.Nat.{ℕ, ◌≤◌, ◌<◌}
use lib.ListN.{length}
use Rattle.base.specs.Limits as limits
use Rattle.sheet.specs.declared.kinds.Kind.TheVariants as kind
use Rattle.sheet.specs.Inner.Sheet.{row_at}
use Rattle.sheet.proofs.Laws.Sheet.{row-fields}
use Rattle.scope_walk.specs.Inner.Sheets.{Accepted, expr_count}
use Rattle.scope_walk.specs.Inner.Walking.{remains}
use Rattle.scope_walk.proofs.Laws.Numbers.{constants, behind_patterns}
use Rattle.scope_walk.proofs.Laws.Walking.{row_low, low-name, first_call, next_call}
use Rattle.scope_walk.proofs.Laws.Patterns.{var_arm, items_arm, leaves_arm}
use Rattle.definition_state.specs.declared.Progress.{Progress}
use Rattle.definition_record.specs.Inner.Checks.{AssignedChecked}
use Rattle.definition_record.proofs.Laws.Checks.{checked_still, checked_none, CheckedTurn, checked_turn}
use Rattle.definition_record.proofs.checks.+check_assigned.Goals.{After-row_at-w, Joined-from}
use Rattle.definition_record.proofs.checks.+check_assigned.Goals.{in-String, in-Var, in-Array, in-Set, in-Object, in-ArrayCompr}
use Rattle.definition_record.proofs.checks.+check_assigned.Goals as goal

pub returns-then-row-eq0 : goal.returns-then-row-eq0
returns-then-row-eq0 m c =
    checked_none _ _ c.requires.0 _ c.if-row-eq0.true c.args.rest _

pub row_at-w-requires : goal.row_at-w-requires
row_at-w-requires m c =
    let pre = c.requires in
    (pre.0.room, row_low _ pre.0 _ c.if-row-eq0.false pre.1)

-- The row that was read.
row_is : (m : ℕ) (c : After-row_at-w m)
    → c.row_at-w.result ≡ row_at c.args.tables.now c.args.row
row_is m c = c.row_at-w.ensures ∙ row-fields _ _

pub check_local-q-requires : goal.check_local-q-requires
check_local-q-requires m c =
    let pre = c.requires in
    (c.in-Var.ensures, rw (row_is m (goal.at.check_local-q-requires m c).After-row_at-w) (low-name _ pre.0 _ c.if-row-eq0.false pre.1), pre.2)

-- The call on the first part.
first-asks : (m : ℕ) (c : After-row_at-w m)
    → let a = c.args in
    let v = c.row_at-w.result.first in
    (remains a.tables.now v < m) × (Accepted a.tables.now × (v ≤ expr_count a.tables.now) × (limits.per_name ≤ length a.firsts.now))
first-asks m c =
    let pre = c.requires in
    let k = first_call _ pre.0 _ c.if-row-eq0.false pre.1 m c.decreases _ (row_is m c) in
    (k.0, (pre.0, k.1, pre.2))

pub check_assigned-q-requires : goal.check_assigned-q-requires
check_assigned-q-requires m c = first-asks m (goal.at.check_assigned-q-requires m c).After-row_at-w

pub check_assigned-q-requires-in-Object : goal.check_assigned-q-requires-in-Object
check_assigned-q-requires-in-Object m c = first-asks m (goal.at.check_assigned-q-requires-in-Object m c).After-row_at-w

-- The match: the leaf's own step, or the parts.
turn : (m : ℕ) (c : Joined-from m)
    →
    let a = c.args in
    CheckedTurn a.tables.now a.firsts.now c.row_at-w.result a.p c.match-from.q
turn m c =
    let g = c.args in
    let none = checked_none g.tables.now g.firsts.now c.requires.0 0 refl true in
    let still = checked_still c.row_at-w.result g.firsts.now in
    elim c.match-from.branch [
      | in-String a ↦ leaves_arm none still _ c.from.ensures constants refl a.in-String.is a.q-is
      | in-Var a ↦ var_arm none still c.from.ensures a.in-Var.is a.check_local-q.ensures a.q-is
      | in-Array a ↦ items_arm none still c.from.ensures (inl a.in-Array.is) a.check_assigned-q.ensures a.q-is
      | in-Set a ↦ leaves_arm none still _ c.from.ensures (kind.Set ∷ []) refl a.in-Set.is a.q-is
      | in-Object a ↦ items_arm none still c.from.ensures (inr a.in-Object.is) a.check_assigned-q-in-Object.ensures a.q-is
      | in-ArrayCompr a ↦ leaves_arm none still _ c.from.ensures behind_patterns refl a.in-ArrayCompr.is a.q-is
    ]

-- With the walk over the rest of the chain.
row_is-at-Joined-from : (m : ℕ) (c : Joined-from m)
    → c.row_at-w.result ≡ row_at c.args.tables.now c.args.row
row_is-at-Joined-from m c = c.row_at-w.ensures ∙ row-fields _ _

turned : (m : ℕ) (c : Joined-from m) (q : Progress)
    →
    let a = c.args in
    AssignedChecked a.tables.now c.next_of-next.result true c.match-from.q a.firsts.now q → AssignedChecked a.tables.now a.row a.rest a.p a.firsts.now q
turned m c q rest =
    checked_turn _ _ c.requires.0 _ c.if-row-eq0.false c.requires.1 c.args.rest _ (row_is-at-Joined-from m c) _ c.next_of-next.ensures _ _ _ (turn m c) rest

pub returns-then-next-eq0 : goal.returns-then-next-eq0
returns-then-next-eq0 m c =
    turned m (goal.at.returns-then-next-eq0 m c).Joined-from _ (checked_none _ _ c.requires.0 _ c.if-next-eq0.true true _)

pub check_assigned-requires : goal.check_assigned-requires
check_assigned-requires m c =
    let pre = c.requires in
    let k = next_call _ pre.0 _ c.if-row-eq0.false pre.1 m c.decreases c.args.rest _ (row_is m (goal.at.check_assigned-requires m c).After-row_at-w) _ c.next_of-next.ensures in
    (k.0, (pre.0, k.1, pre.2))

pub returns : goal.returns
returns m c = turned m (goal.at.returns m c).Joined-from _ c.check_assigned.ensures
