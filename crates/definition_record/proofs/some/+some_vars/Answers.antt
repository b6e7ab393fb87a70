-- Each arm does what its kind asks, which goes on to later rows only: a row's turn (`some_turn`).
use mathlib.Core.Path.{◌≡◌, refl, ◌∙◌}
use mathlib.Core.Bool.{true}
use mathlib.Core.List.{[], ◌∷◌}
use mathlib.Core.Logic.{inl, inr}
use Prim.Native.Nat.{ℕ, ◌≤◌, ◌<◌}
use Rattle.names.specs.Inner.Names.{Names}
use Rattle.sheet.specs.declared.kinds.Kind.TheVariants as kind
use Rattle.sheet.specs.Inner.Sheet.{row_at}
use Rattle.sheet.proofs.Laws.Sheet.{row-fields}
use Rattle.scope_walk.specs.Inner.Sheets.{Accepted, expr_count}
use Rattle.scope_walk.specs.Inner.Walking.{remains}
use Rattle.scope_walk.proofs.Laws.Numbers.{constants, behind_patterns}
use Rattle.scope_walk.proofs.Laws.Walking.{row_low, low-name, first_call, next_call}
use Rattle.scope_walk.proofs.Laws.Patterns.{var_arm, items_arm, leaves_arm}
use Rattle.definition_record.specs.Inner.SomeVars.{SomeVars}
use Rattle.definition_record.proofs.Laws.SomeVars.{some_still, some-none, SomeTurn, some_turn}
use Rattle.definition_record.proofs.some.+some_vars.Goals.{After-row_at-w, Joined-from}
use Rattle.definition_record.proofs.some.+some_vars.Goals.{in-String, in-Var, in-Array, in-Set, in-Object, in-ArrayCompr}
use Rattle.definition_record.proofs.some.+some_vars.Goals as goal

pub returns-then-row-eq0 : goal.returns-then-row-eq0
returns-then-row-eq0 m c =
    some-none _ _ c.requires.0 _ c.if-row-eq0.true _

pub row_at-w-requires : goal.row_at-w-requires
row_at-w-requires m c =
    let pre = c.requires in
    (pre.0.room, row_low _ pre.0 _ c.if-row-eq0.false pre.1)

-- The row that was read.
row_is : (m : ℕ) (c : After-row_at-w m)
    → c.row_at-w.result ≡ row_at c.args.tables.now c.args.row
row_is m c = c.row_at-w.ensures ∙ row-fields _ _

pub some_var-s-requires : goal.some_var-s-requires
some_var-s-requires m c =
    let pre = c.requires in
    record { var = c.in-Var.ensures; tables-room = pre.0.room; name-low = rw (row_is m (goal.at.some_var-s-requires m c).After-row_at-w) (low-name _ pre.0 _ c.if-row-eq0.false pre.1) }

-- The call on the first part.
first-asks : (m : ℕ) (c : After-row_at-w m)
    → let t = c.args.tables.now in
    let v = c.row_at-w.result.first in
    (remains t v < m) × (Accepted t × (v ≤ expr_count t))
first-asks m c =
    let k = first_call _ c.requires.0 _ c.if-row-eq0.false c.requires.1 m c.decreases _ (row_is m c) in
    (k.0, (c.requires.0, k.1))

pub some_vars-s-requires : goal.some_vars-s-requires
some_vars-s-requires m c = first-asks m (goal.at.some_vars-s-requires m c).After-row_at-w

pub some_vars-s-requires-in-Object : goal.some_vars-s-requires-in-Object
some_vars-s-requires-in-Object m c = first-asks m (goal.at.some_vars-s-requires-in-Object m c).After-row_at-w

-- The match: the leaf's own step, or the parts.
turn : (m : ℕ) (c : Joined-from m)
    →
    let a = c.args in
    SomeTurn a.tables.now a.scope c.row_at-w.result a.names c.match-from.s
turn m c =
    let g = c.args in
    let none = some-none g.tables.now g.scope c.requires.0 0 refl in
    let still = some_still g.tables.now g.scope c.row_at-w.result in
    elim c.match-from.branch [
      | in-String a ↦ leaves_arm none still _ c.from.ensures constants refl a.in-String.is a.s-is
      | in-Var a ↦ var_arm none still c.from.ensures a.in-Var.is a.some_var-s.ensures a.s-is
      | in-Array a ↦ items_arm none still c.from.ensures (inl a.in-Array.is) a.some_vars-s.ensures a.s-is
      | in-Set a ↦ leaves_arm none still _ c.from.ensures (kind.Set ∷ []) refl a.in-Set.is a.s-is
      | in-Object a ↦ items_arm none still c.from.ensures (inr a.in-Object.is) a.some_vars-s-in-Object.ensures a.s-is
      | in-ArrayCompr a ↦ leaves_arm none still _ c.from.ensures behind_patterns refl a.in-ArrayCompr.is a.s-is
    ]

-- With the walk over the rest of the chain.
row_is-at-Joined-from : (m : ℕ) (c : Joined-from m)
    → c.row_at-w.result ≡ row_at c.args.tables.now c.args.row
row_is-at-Joined-from m c = c.row_at-w.ensures ∙ row-fields _ _

turned : (m : ℕ) (c : Joined-from m) (s : Names)
    →
    let a = c.args in
    SomeVars a.tables.now a.scope c.next_of-next.result c.match-from.s s → SomeVars a.tables.now a.scope a.row a.names s
turned m c s rest =
    some_turn _ _ c.requires.0 _ c.if-row-eq0.false c.requires.1 _ (row_is-at-Joined-from m c) _ c.next_of-next.ensures _ _ _ (turn m c) rest

pub returns-then-next-eq0 : goal.returns-then-next-eq0
returns-then-next-eq0 m c =
    turned m (goal.at.returns-then-next-eq0 m c).Joined-from _ (some-none _ _ c.requires.0 _ c.if-next-eq0.true _)

pub some_vars-requires : goal.some_vars-requires
some_vars-requires m c =
    let k = next_call _ c.requires.0 _ c.if-row-eq0.false c.requires.1 m c.decreases true _ (row_is m (goal.at.some_vars-requires m c).After-row_at-w) _ c.next_of-next.ensures in
    (k.0, (c.requires.0, k.1))

pub returns : goal.returns
returns m c = turned m (goal.at.returns m c).Joined-from _ c.some_vars.ensures
