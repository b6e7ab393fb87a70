-- Each arm does what its kind asks, which goes on to later rows only: a row's turn (`assigned_turn`).
use mathlib.Core.Path.{◌≡◌, refl, ◌∙◌}
use mathlib.Core.Bool.{true}
use mathlib.Core.List.{[], ◌∷◌}
use mathlib.Core.Logic.{inl, inr}
use Prim.Native.Nat.{ℕ, ◌≤◌, ◌<◌}
use Rattle.names.specs.Inner.Names.{Names}
use Rattle.sheet.specs.Inner.Sheet.{row_at}
use Rattle.sheet.proofs.Laws.Sheet.{row-fields}
use Rattle.scope_walk.specs.Inner.Sheets.{Accepted, expr_count}
use Rattle.scope_walk.specs.Inner.Walking.{remains}
use Rattle.scope_walk.proofs.Laws.Walking.{low-name, first_call, next_call}
use Rattle.scope_walk.proofs.Laws.Numbers.{constants, behind_patterns}
use Rattle.scope_walk.proofs.Laws.Patterns.{var_arm, items_arm, leaves_arm}
use Rattle.sheet.specs.declared.kinds.Kind.TheVariants as kind
use Rattle.definition_walk.proofs.Laws.Assigned.{leaf_still, assigned_none, AssignedTurn, assigned_turn}
use Rattle.definition_walk.specs.Inner.Assigned.{AssignedWalk}
use Rattle.definition_walk.proofs.assigned.+assigned_vars.Goals.{After-row_at-w, Joined-from}
use Rattle.definition_walk.proofs.assigned.+assigned_vars.Goals.{in-String, in-Var, in-Array, in-Set, in-Object, in-ArrayCompr}
use Rattle.definition_walk.proofs.assigned.+assigned_vars.Goals as goal

pub returns-then-row-eq0 : goal.returns-then-row-eq0
returns-then-row-eq0 m c =
    assigned_none _ _ c.requires.0 _ c.if-row-eq0.true c.args.rest _

-- The row that was read.
row_is : (m : ℕ) (c : After-row_at-w m)
    → c.row_at-w.result ≡ row_at c.args.tables.now c.args.row
row_is m c = c.row_at-w.ensures ∙ row-fields _ _

pub assigned_var-s-requires : goal.assigned_var-s-requires
assigned_var-s-requires m c =
    let pre = c.requires in
    (c.in-Var.ensures, rw (row_is m (goal.at.assigned_var-s-requires m c).After-row_at-w) (low-name _ pre.0 _ c.if-row-eq0.false pre.1))

-- The call on the first part.
first-asks : (m : ℕ) (c : After-row_at-w m)
    → let t = c.args.tables.now in
    let v = c.row_at-w.result.first in
    (remains t v < m) × (Accepted t × (v ≤ expr_count t))
first-asks m c =
    let k = first_call _ c.requires.0 _ c.if-row-eq0.false c.requires.1 m c.decreases _ (row_is m c) in
    (k.0, (c.requires.0, k.1))

pub assigned_vars-s-requires : goal.assigned_vars-s-requires
assigned_vars-s-requires m c = first-asks m (goal.at.assigned_vars-s-requires m c).After-row_at-w

pub assigned_vars-s-requires-in-Object : goal.assigned_vars-s-requires-in-Object
assigned_vars-s-requires-in-Object m c = first-asks m (goal.at.assigned_vars-s-requires-in-Object m c).After-row_at-w

-- The match: the leaf's own step, or the parts.
turn : (m : ℕ) (c : Joined-from m)
    →
    let a = c.args in
    AssignedTurn a.tables.now a.scope c.row_at-w.result a.names c.match-from.s
turn m c =
    let g = c.args in
    let none = assigned_none g.tables.now g.scope c.requires.0 0 refl true in
    let still = leaf_still g.scope c.row_at-w.result in
    elim c.match-from.branch [
      | in-String w ↦ leaves_arm none still _ c.from.ensures constants refl w.in-String.is w.s-is
      | in-Var w ↦ var_arm none still c.from.ensures w.in-Var.is w.assigned_var-s.ensures w.s-is
      | in-Array w ↦ items_arm none still c.from.ensures (inl w.in-Array.is) w.assigned_vars-s.ensures w.s-is
      | in-Set w ↦ leaves_arm none still _ c.from.ensures (kind.Set ∷ []) refl w.in-Set.is w.s-is
      | in-Object w ↦ items_arm none still c.from.ensures (inr w.in-Object.is) w.assigned_vars-s-in-Object.ensures w.s-is
      | in-ArrayCompr w ↦ leaves_arm none still _ c.from.ensures behind_patterns refl w.in-ArrayCompr.is w.s-is
    ]

-- With the walk over the rest of the chain.
row_is-at-Joined-from : (m : ℕ) (c : Joined-from m)
    → c.row_at-w.result ≡ row_at c.args.tables.now c.args.row
row_is-at-Joined-from m c = c.row_at-w.ensures ∙ row-fields _ _

turned : (m : ℕ) (c : Joined-from m) (s : Names)
    →
    let a = c.args in
    AssignedWalk a.tables.now a.scope c.next_of-next.result true c.match-from.s s → AssignedWalk a.tables.now a.scope a.row a.rest a.names s
turned m c s rest =
    assigned_turn _ _ c.requires.0 _ c.if-row-eq0.false c.requires.1 c.args.rest _ (row_is-at-Joined-from m c) _ c.next_of-next.ensures _ _ _ (turn m c) rest

pub returns-then-next-eq0 : goal.returns-then-next-eq0
returns-then-next-eq0 m c =
    turned m (goal.at.returns-then-next-eq0 m c).Joined-from _ (assigned_none _ _ c.requires.0 _ c.if-next-eq0.true true _)

pub assigned_vars-requires : goal.assigned_vars-requires
assigned_vars-requires m c =
    let k = next_call _ c.requires.0 _ c.if-row-eq0.false c.requires.1 m c.decreases c.args.rest _ (row_is m (goal.at.assigned_vars-requires m c).After-row_at-w) _ c.next_of-next.ensures in
    (k.0, (c.requires.0, k.1))

pub returns : goal.returns
returns m c = turned m (goal.at.returns m c).Joined-from _ c.assigned_vars.ensures
