-- Each arm does what its kind asks, which goes on to later rows only: a row's turn (`assign_walk_turn`).
use mathlib.Core.Path.{◌≡◌, refl, sym, ◌∙◌, subst}
use mathlib.Core.Bool.{true}
use mathlib.Core.List.{List, [], ◌∷◌}
use mathlib.Core.Logic.{inl, inr}
use Prim.Native.Nat.{ℕ, ◌<◌}
use native.Mathlib.Omega.{arith}
use lib.ListN.{length}
use Rattle.sheet.specs.Inner.Sheet.{row_at}
use Rattle.sheet.proofs.Laws.Sheet.{row-fields}
use Rattle.scope_state.specs.declared.Scope.{Scope}
use Rattle.scope_walk.specs.Inner.Asks.{AsksWalk}
use Rattle.scope_walk.specs.Inner.Walking.{remains}
use Rattle.scope_walk.proofs.Laws.Walking.{Falls, low-name, first_call, next_call}
use Rattle.scope_walk.proofs.Laws.Numbers.{constants, behind_patterns}
use Rattle.scope_walk.proofs.Laws.Patterns.{var_arm, items_arm, leaves_arm, Lengthwise}
use Rattle.sheet.specs.declared.kinds.Kind.TheVariants as kind
use Rattle.scope_vars.specs.Inner.Assigned.{AssignWalk}
use Rattle.scope_vars.proofs.Laws.Assigned.{assign_walk_none, AssignTurn, assign_at_var, assign_still, assign_walk_turn, assign_turn_kept}
use Rattle.scope_vars.proofs.assigned.+gather_assigned_vars.Goals.{After-row_at-w, Joined-from}
use Rattle.scope_vars.proofs.assigned.+gather_assigned_vars.Goals.{in-String, in-Var, in-Array, in-Set, in-Object, in-ArrayCompr}
use Rattle.scope_vars.proofs.assigned.+gather_assigned_vars.Goals as goal

pub returns-then-row-eq0 : goal.returns-then-row-eq0
returns-then-row-eq0 m c =
    let a = c.args in
    subst (λ (n : ℕ). AssignWalk a.tables.now a.outer.now n a.rest a.can_shadow a.scope a.spans.now a.scope a.spans.now)
    (sym c.if-row-eq0.true) (assign_walk_none _ _ c.requires.accepted a.rest a.can_shadow a.scope a.spans.now)

-- The row that was read.
row_is : (m : ℕ) (c : After-row_at-w m)
    → c.row_at-w.result ≡ row_at c.args.tables.now c.args.row
row_is m c = c.row_at-w.ensures ∙ row-fields _ _

pub assign_var-s-requires : goal.assign_var-s-requires
assign_var-s-requires m c =
    let pre = c.requires in
    record {
      tables-room = pre.accepted.room;
      outer-room = pre.outer-room;
      name-low = rw (row_is m (goal.at.assign_var-s-requires m c).After-row_at-w) (low-name _ pre.accepted _ c.if-row-eq0.false pre.row_in);
      spans-room = pre.spans-room;
    }

-- A call on a later row, with as many words.
asks : (m : ℕ) (c : After-row_at-w m) (v : ℕ)
    → let a = c.args in
    Falls a.tables.now m v → (l : List ℕ) → length l ≡ length a.spans.now → (remains a.tables.now v < m) × AsksWalk a.tables.now a.outer.now v l
asks m c v k l e =
    let pre = c.requires in
    (k.0, record { accepted = pre.accepted; outer-room = pre.outer-room; row_in = k.1; spans-room = omega (arith, pre.spans-room) })

first_falls : (m : ℕ) (c : After-row_at-w m)
    → Falls c.args.tables.now m c.row_at-w.result.first
first_falls m c =
    first_call _ c.requires.accepted _ c.if-row-eq0.false c.requires.row_in m c.decreases _ (row_is m c)

pub gather_assigned_vars-s-requires : goal.gather_assigned_vars-s-requires
gather_assigned_vars-s-requires m c =
    asks m (goal.at.gather_assigned_vars-s-requires m c).After-row_at-w _ (first_falls m (goal.at.gather_assigned_vars-s-requires m c).After-row_at-w) _ refl

pub gather_assigned_vars-s-requires-in-Object : goal.gather_assigned_vars-s-requires-in-Object
gather_assigned_vars-s-requires-in-Object m c =
    asks m (goal.at.gather_assigned_vars-s-requires-in-Object m c).After-row_at-w _ (first_falls m (goal.at.gather_assigned_vars-s-requires-in-Object m c).After-row_at-w) _ refl

-- The match: the leaf's own step, or the parts.
turn : (m : ℕ) (c : Joined-from m)
    →
    let a = c.args in
    AssignTurn a.tables.now a.outer.now c.row_at-w.result a.can_shadow (a.scope, a.spans.now) (c.match-from.s, c.match-from.spans)
turn m c =
    let g = c.args in
    let none : (k : Scope × List ℕ) → Lengthwise (AssignWalk g.tables.now g.outer.now 0 true g.can_shadow) k k =
    λ k. (assign_walk_none _ _ c.requires.accepted true g.can_shadow k.0 k.1, refl) in
    let still = assign_still g.tables.now g.outer.now c.row_at-w.result g.can_shadow in
    elim c.match-from.branch [
      | in-String w ↦ leaves_arm none still _ c.from.ensures constants refl w.in-String.is (λ i. (w.s-is i, w.spans-is i))
      | in-Var w ↦
          var_arm none still c.from.ensures w.in-Var.is (assign_at_var _ _ _ _ w.in-Var.ensures _ _ _ _ w.assign_var-s.ensures, w.assign_var-s.auto.spans) (λ i. (w.s-is i, w.spans-is i))
      | in-Array w ↦ items_arm none still c.from.ensures (inl w.in-Array.is) (w.gather_assigned_vars-s.ensures, w.gather_assigned_vars-s.auto.spans) (λ i. (w.s-is i, w.spans-is i))
      | in-Set w ↦ leaves_arm none still _ c.from.ensures (kind.Set ∷ []) refl w.in-Set.is (λ i. (w.s-is i, w.spans-is i))
      | in-Object w ↦
          items_arm none still c.from.ensures (inr w.in-Object.is) (w.gather_assigned_vars-s-in-Object.ensures, w.gather_assigned_vars-s-in-Object.auto.spans) (λ i. (w.s-is i, w.spans-is i))
      | in-ArrayCompr w ↦ leaves_arm none still _ c.from.ensures behind_patterns refl w.in-ArrayCompr.is (λ i. (w.s-is i, w.spans-is i))
    ]

kept : (m : ℕ) (c : Joined-from m)
    → length c.match-from.spans ≡ length c.args.spans.now
kept m c = assign_turn_kept _ _ _ _ _ _ (turn m c)

-- With the walk over the rest of the chain.
turned : (m : ℕ) (c : Joined-from m) (s : Scope) (l : List ℕ)
    →
    let a = c.args in
    AssignWalk a.tables.now a.outer.now c.next_of-next.result true a.can_shadow c.match-from.s c.match-from.spans s l
    → AssignWalk a.tables.now a.outer.now a.row a.rest a.can_shadow a.scope a.spans.now s l
turned m c s l rest =
    assign_walk_turn _ _ c.requires.accepted _ c.if-row-eq0.false c.requires.row_in c.args.rest _ _ (c.row_at-w.ensures ∙ row-fields _ _) _ c.next_of-next.ensures _ _ (s, l) (turn m c) rest

pub returns-then-next-eq0 : goal.returns-then-next-eq0
returns-then-next-eq0 m c =
    let a = c.args in
    let j = c.match-from in
    turned m (goal.at.returns-then-next-eq0 m c).Joined-from _ _
    (subst (λ (n : ℕ). AssignWalk a.tables.now a.outer.now n true a.can_shadow j.s j.spans j.s j.spans)
    (sym c.if-next-eq0.true) (assign_walk_none _ _ c.requires.accepted true a.can_shadow j.s j.spans))

pub gather_assigned_vars-requires : goal.gather_assigned_vars-requires
gather_assigned_vars-requires m c =
    asks m (goal.at.gather_assigned_vars-requires m c).After-row_at-w _ (next_call _ c.requires.accepted _ c.if-row-eq0.false c.requires.row_in m c.decreases c.args.rest _ (row_is m (goal.at.gather_assigned_vars-requires m c).After-row_at-w) _ c.next_of-next.ensures) _ (kept m (goal.at.gather_assigned_vars-requires m c).Joined-from)

pub returns : goal.returns
returns m c = turned m (goal.at.returns m c).Joined-from _ _ c.gather_assigned_vars.ensures
