-- Each arm does what its kind asks, which goes on to later rows only: a row's turn (`entered-turn`).
use mathlib.Core.Path.{◌≡◌, refl, ◌∙◌}
use mathlib.Core.Bool.{true}
use mathlib.Core.List.{List, [], ◌∷◌}
use mathlib.Core.Logic.{inl, inr}
use Prim.Native.Nat.{ℕ, ◌≤◌, ◌<◌}
use native.Mathlib.Omega.{arith}
use lib.ListN.{length}
use Rattle.base.specs.Limits as limits
use Rattle.sheet.specs.declared.kinds.Kind.TheVariants as kind
use Rattle.sheet.specs.Inner.Sheet.{row_at}
use Rattle.sheet.proofs.Laws.Sheet.{row-fields}
use Rattle.scope_walk.specs.Inner.Sheets.{Accepted, expr_count}
use Rattle.scope_walk.specs.Inner.Walking.{remains}
use Rattle.scope_walk.proofs.Laws.Numbers.{constants, behind_patterns}
use Rattle.scope_walk.proofs.Laws.Walking.{Falls, row_low, low-name, first_call, next_call}
use Rattle.scope_walk.proofs.Laws.Patterns.{var_arm, items_arm, leaves_arm}
use Rattle.definition_record.specs.Inner.SomeVars.{SomeEntered}
use Rattle.definition_record.proofs.Laws.SomeVars.{enter_still, entered-none, EnteredTurn, entered-turn}
use Rattle.definition_record.proofs.some.+first_some.Goals.{After-row_at-w, Joined-from}
use Rattle.definition_record.proofs.some.+first_some.Goals.{in-String, in-Var, in-Array, in-Set, in-Object, in-ArrayCompr}
use Rattle.definition_record.proofs.some.+first_some.Goals as goal

pub returns-then-row-eq0 : goal.returns-then-row-eq0
returns-then-row-eq0 m c =
    entered-none _ _ c.requires.0 _ c.if-row-eq0.true _

pub row_at-w-requires : goal.row_at-w-requires
row_at-w-requires m c =
    let pre = c.requires in
    (pre.0.room, row_low _ pre.0 _ c.if-row-eq0.false pre.1)

-- The row that was read.
row_is : (m : ℕ) (c : After-row_at-w m)
    → c.row_at-w.result ≡ row_at c.args.tables.now c.args.row
row_is m c = c.row_at-w.ensures ∙ row-fields _ _

pub enter_var-requires : goal.enter_var-requires
enter_var-requires m c =
    let pre = c.requires in
    (record { var = c.in-Var.ensures; tables-room = pre.0.room; name-low = rw (row_is m (goal.at.enter_var-requires m c).After-row_at-w) (low-name _ pre.0 _ c.if-row-eq0.false pre.1) }, pre.2)

-- A call on a later row, with n words.
asks : (m : ℕ) (c : After-row_at-w m) (v : ℕ)
    → let a = c.args in
    let t = a.tables.now in
    Falls t m v → (n : ℕ) → n ≡ length a.firsts.now → (remains t v < m) × (Accepted t × (v ≤ expr_count t) × (limits.per_name ≤ n))
asks m c v k n e = let pre = c.requires in (k.0, (pre.0, k.1, omega (arith, pre.2)))

first_falls : (m : ℕ) (c : After-row_at-w m)
    → Falls c.args.tables.now m c.row_at-w.result.first
first_falls m c =
    first_call _ c.requires.0 _ c.if-row-eq0.false c.requires.1 m c.decreases _ (row_is m c)

pub first_some-requires : goal.first_some-requires
first_some-requires m c = asks m (goal.at.first_some-requires m c).After-row_at-w _ (first_falls m (goal.at.first_some-requires m c).After-row_at-w) _ refl

pub first_some-requires-in-Object : goal.first_some-requires-in-Object
first_some-requires-in-Object m c = asks m (goal.at.first_some-requires-in-Object m c).After-row_at-w _ (first_falls m (goal.at.first_some-requires-in-Object m c).After-row_at-w) _ refl

-- The match: the leaf's own step, or the parts.
turn : (m : ℕ) (c : Joined-from m)
    →
    let a = c.args in
    EnteredTurn a.tables.now a.scope c.row_at-w.result a.firsts.now c.match-from.firsts
turn m c =
    let g = c.args in
    let none : (l : List ℕ) → SomeEntered g.tables.now g.scope 0 l l × (length l ≡ length l) = λ l. (entered-none _ _ c.requires.0 0 refl l, refl) in
    let still = enter_still g.tables.now g.scope c.row_at-w.result in
    elim c.match-from.branch [
      | in-String a ↦ leaves_arm none still _ c.from.ensures constants refl a.in-String.is a.firsts-is
      | in-Var a ↦ var_arm none still c.from.ensures a.in-Var.is (a.enter_var.ensures, a.enter_var.auto.firsts) a.firsts-is
      | in-Array a ↦ items_arm none still c.from.ensures (inl a.in-Array.is) (a.first_some.ensures, a.first_some.auto.firsts) a.firsts-is
      | in-Set a ↦ leaves_arm none still _ c.from.ensures (kind.Set ∷ []) refl a.in-Set.is a.firsts-is
      | in-Object a ↦ items_arm none still c.from.ensures (inr a.in-Object.is) (a.first_some-in-Object.ensures, a.first_some-in-Object.auto.firsts) a.firsts-is
      | in-ArrayCompr a ↦ leaves_arm none still _ c.from.ensures behind_patterns refl a.in-ArrayCompr.is a.firsts-is
    ]

kept : (m : ℕ) (c : Joined-from m)
    → length c.match-from.firsts ≡ length c.args.firsts.now
kept m c = (turn m c).parts.1 ∙ (turn m c).step.1

-- With the walk over the rest of the chain.
row_is-at-Joined-from : (m : ℕ) (c : Joined-from m)
    → c.row_at-w.result ≡ row_at c.args.tables.now c.args.row
row_is-at-Joined-from m c = c.row_at-w.ensures ∙ row-fields _ _

turned : (m : ℕ) (c : Joined-from m) (l : List ℕ)
    →
    let a = c.args in
    SomeEntered a.tables.now a.scope c.next_of-next.result c.match-from.firsts l → SomeEntered a.tables.now a.scope a.row a.firsts.now l
turned m c l rest =
    entered-turn _ _ c.requires.0 _ c.if-row-eq0.false c.requires.1 _ (row_is-at-Joined-from m c) _ c.next_of-next.ensures _ _ _ (turn m c) rest

pub shape_of-firsts-then-next-eq0 : goal.shape_of-firsts-then-next-eq0
shape_of-firsts-then-next-eq0 m c = kept m (goal.at.shape_of-firsts-then-next-eq0 m c).Joined-from

pub returns-then-next-eq0 : goal.returns-then-next-eq0
returns-then-next-eq0 m c =
    turned m (goal.at.returns-then-next-eq0 m c).Joined-from _ (entered-none _ _ c.requires.0 _ c.if-next-eq0.true _)

pub first_some-requires-2 : goal.first_some-requires-2
first_some-requires-2 m c =
    asks m (goal.at.first_some-requires-2 m c).After-row_at-w _ (next_call _ c.requires.0 _ c.if-row-eq0.false c.requires.1 m c.decreases true _ (row_is m (goal.at.first_some-requires-2 m c).After-row_at-w) _ c.next_of-next.ensures) _ (kept m (goal.at.first_some-requires-2 m c).Joined-from)

pub shape_of-firsts : goal.shape_of-firsts
shape_of-firsts m c = c.first_some-2.auto.firsts ∙ kept m (goal.at.shape_of-firsts m c).Joined-from

pub returns : goal.returns
returns m c = turned m (goal.at.returns m c).Joined-from _ c.first_some-2.ensures
