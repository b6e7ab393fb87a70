-- Each arm does what its kind asks, which goes on to later rows only: a row's turn (`leaves_used_turn`).
use mathlib.Core.Path.{◌≡◌, refl, ◌∙◌}
use mathlib.Core.Bool.{true}
use mathlib.Core.List.{[], ◌∷◌}
use Prim.Native.Nat.{ℕ, ◌<◌}
use Rattle.sheet.specs.declared.kinds.Kind.TheVariants as kind
use Rattle.sheet.specs.Inner.Sheet.{row_at}
use Rattle.sheet.proofs.Laws.Sheet.{row-fields}
use Rattle.names.specs.Inner.Names.{Names}
use Rattle.scope_walk.specs.Inner.Walking.{remains}
use Rattle.scope_walk.proofs.Laws.Numbers.{constants, behind_patterns}
use Rattle.scope_walk.proofs.Laws.Walking.{row_low, low-name, first_call, next_call}
use Rattle.scope_walk.proofs.Laws.Patterns.{entering_arm, leaves_turn}
use Rattle.definition_literal.proofs.Laws.SomeIn.{is-part}
use Rattle.definition_cycle.specs.Inner.Asks.{AsksUsedBy}
use Rattle.definition_cycle.specs.Inner.AllUsed.{LeavesUsed}
use Rattle.definition_cycle.proofs.Laws.PatternUses.{part-pattern, part_itself, UsedTurn, leaves_used_none, leaves_used_turn}
use Rattle.definition_after.proofs.used_by.+leaves_used.Goals.{After-row_at-w, Joined-from}
use Rattle.definition_after.proofs.used_by.+leaves_used.Goals.{in-String, in-Var, in-Array, in-Set, in-Object, in-ArrayCompr}
use Rattle.definition_after.proofs.used_by.+leaves_used.Goals as goal

pub returns-then-row-eq0 : goal.returns-then-row-eq0
returns-then-row-eq0 m c =
    leaves_used_none _ c.args.p.width c.args.p.scope c.args.work.now c.requires.accepted _ c.if-row-eq0.true c.args.mods _

pub row_at-w-requires : goal.row_at-w-requires
row_at-w-requires m c =
    let pre = c.requires in
    (pre.accepted.room, row_low _ pre.accepted _ c.if-row-eq0.false pre.row_in)

-- The row that was read.
row_is : (m : ℕ) (c : After-row_at-w m)
    → c.row_at-w.result ≡ row_at c.args.tables.now c.args.row
row_is m c = c.row_at-w.ensures ∙ row-fields _ _

pub var_used-s-requires : goal.var_used-s-requires
var_used-s-requires m c =
    let pre = c.requires in
    record {
      var = c.in-Var.ensures;
      name-low = rw (row_is m (goal.at.var_used-s-requires m c).After-row_at-w) (low-name _ pre.accepted _ c.if-row-eq0.false pre.row_in);
      some-row = c.if-row-eq0.false;
      used-by = pre;
    }

-- The match: the leaf's own step, or the parts.
turn : (m : ℕ) (c : Joined-from m)
    →
    let a = c.args in
    UsedTurn a.tables.now a.p.width a.p.scope a.work.now a.row c.row_at-w.result a.mods a.names c.match-from.s
turn m c =
    let g = c.args in
    let t = g.tables.now in
    let k = g.p.scope in
    let w = c.row_at-w.result in
    let row = g.row in
    let none = leaves_used_none t g.p.width k g.work.now c.requires.accepted 0 refl g.mods in
    let still = part-pattern t g.p.width k g.work.now row w g.mods in
    let itself = part_itself t g.p.width k g.work.now row w g.mods in
    let part = is-part t k w row _ c.from.ensures in
    elim c.match-from.branch [
      | in-String a ↦
          leaves_turn none still _ c.from.ensures constants refl a.in-String.is (itself (part constants refl refl refl a.in-String.is) _ _ a.other_used-s.ensures) a.s-is
      | in-Var a ↦ entering_arm none still 6 a.in-Var.ensures a.var_used-s.ensures a.s-is
      | in-Array a ↦ entering_arm none still 7 a.in-Array.ensures a.leaves_used-s.ensures a.s-is
      | in-Set a ↦ entering_arm none still 8 a.in-Set.ensures (itself (part (kind.Set ∷ []) refl refl refl a.in-Set.is) _ _ a.other_used-s-in-Set.ensures) a.s-is
      | in-Object a ↦ entering_arm none still 9 a.in-Object.ensures a.leaves_used-s-in-Object.ensures a.s-is
      | in-ArrayCompr a ↦
          leaves_turn none still _ c.from.ensures behind_patterns refl a.in-ArrayCompr.is
          (itself (part behind_patterns refl refl refl a.in-ArrayCompr.is) _ _ a.other_used-s-in-ArrayCompr.ensures) a.s-is
    ]

-- With the walk over the rest of the chain.
row_is-at-Joined-from : (m : ℕ) (c : Joined-from m)
    → c.row_at-w.result ≡ row_at c.args.tables.now c.args.row
row_is-at-Joined-from m c = c.row_at-w.ensures ∙ row-fields _ _

turned : (m : ℕ) (c : Joined-from m) (b : Names)
    →
    let a = c.args in
    LeavesUsed a.tables.now a.p.width a.p.scope c.row_at-w.result.next a.mods a.work.now c.match-from.s b
    → LeavesUsed a.tables.now a.p.width a.p.scope a.row a.mods a.work.now a.names b
turned m c b rest =
    leaves_used_turn _ c.args.p.width c.args.p.scope c.args.work.now c.requires.accepted _ c.if-row-eq0.false c.requires.row_in _ (row_is-at-Joined-from m c)
    c.args.mods _ _ _ (turn m c) rest

pub returns-then-w-eq0 : goal.returns-then-w-eq0
returns-then-w-eq0 m c =
    let a = c.args in
    turned m (goal.at.returns-then-w-eq0 m c).Joined-from _ (leaves_used_none a.tables.now a.p.width a.p.scope a.work.now c.requires.accepted _ c.if-w-eq0.true a.mods _)

pub leaves_used-requires : goal.leaves_used-requires
leaves_used-requires m c =
    let pre = c.requires in
    let k = next_call _ pre.accepted _ c.if-row-eq0.false pre.row_in m c.decreases true _ (row_is m (goal.at.leaves_used-requires m c).After-row_at-w) _ refl in
    (k.0, record { accepted = pre.accepted; row_in = k.1; mods_in = pre.mods_in; answers-room = pre.answers-room })

pub returns : goal.returns
returns m c = turned m (goal.at.returns m c).Joined-from _ c.leaves_used.ensures

-- The row itself is a part.
part-asks : (m : ℕ) (c : After-row_at-w m)
    → let a = c.args in
    (a.row ≡ 0 → ⊥) × AsksUsedBy a.tables.now a.p.width a.row a.mods a.work.now
part-asks m c = (c.if-row-eq0.false, c.requires)

-- The call on the first part.
first-asks : (m : ℕ) (c : After-row_at-w m)
    → let a = c.args in
    let v = c.row_at-w.result.first in
    (remains a.tables.now v < m) × AsksUsedBy a.tables.now a.p.width v a.mods a.work.now
first-asks m c =
    let pre = c.requires in
    let k = first_call _ pre.accepted _ c.if-row-eq0.false pre.row_in m c.decreases _ (row_is m c) in
    (k.0, record { accepted = pre.accepted; row_in = k.1; mods_in = pre.mods_in; answers-room = pre.answers-room })

pub other_used-s-requires : goal.other_used-s-requires
other_used-s-requires m c = part-asks m (goal.at.other_used-s-requires m c).After-row_at-w

pub leaves_used-s-requires : goal.leaves_used-s-requires
leaves_used-s-requires m c = first-asks m (goal.at.leaves_used-s-requires m c).After-row_at-w

pub other_used-s-requires-in-Set : goal.other_used-s-requires-in-Set
other_used-s-requires-in-Set m c = part-asks m (goal.at.other_used-s-requires-in-Set m c).After-row_at-w

pub leaves_used-s-requires-in-Object : goal.leaves_used-s-requires-in-Object
leaves_used-s-requires-in-Object m c = first-asks m (goal.at.leaves_used-s-requires-in-Object m c).After-row_at-w

pub other_used-s-requires-in-ArrayCompr : goal.other_used-s-requires-in-ArrayCompr
other_used-s-requires-in-ArrayCompr m c = part-asks m (goal.at.other_used-s-requires-in-ArrayCompr m c).After-row_at-w
