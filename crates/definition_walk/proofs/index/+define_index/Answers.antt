-- Each arm does what its kind asks, which goes on to later rows only: a row's turn (`index-turn`).
use mathlib.Core.Path.{◌≡◌, refl, sym, ◌∙◌}
use mathlib.Core.List.{List, [], ◌∷◌}
use mathlib.Core.Logic.{inl, inr}
use mathlib.Core.Bool.{true, false, cond}
use Prim.Native.Nat.{ℕ, ◌≤◌, ◌<◌}
use lib.ListN.{length}
use Rattle.sheet.specs.Inner.Sheet.{row_at}
use Rattle.sheet.proofs.Laws.Sheet.{row-fields}
use Rattle.sheet.specs.Kinds.{is_pattern, is_var}
use Rattle.scope_walk.proofs.Laws.Walking.{low-name, first_call, next_call, no_var}
use Rattle.scope_walk.proofs.Laws.Numbers.{OneOf, patterns, constants, behind_patterns}
use Rattle.scope_walk.proofs.Laws.Patterns.{Lengthwise, var_arm, items_arm, leaves_arm}
use Rattle.sheet.specs.declared.kinds.Kind.TheVariants as kind
use Rattle.scope_walk.specs.Inner.Sheets.{Accepted, expr_count}
use Rattle.scope_walk.specs.Inner.Walking.{remains}
use Rattle.definition_walk.specs.Inner.Index.{LeafDefined, IndexDefined, IndexFits}
use Rattle.definition_walk.proofs.Laws.Index.{items_pattern, leaf_undefined, IndexTurn, index-none, leaf_fits, inner_fits, next_fits, index-turn}
use Rattle.definition_walk.proofs.index.+define_index.Goals.{After-row_at-w, After-from, Joined-from}
use Rattle.definition_walk.proofs.index.+define_index.Goals.{in-String, in-Var, in-Array, in-Set, in-Object, in-ArrayCompr}
use Rattle.definition_walk.proofs.index.+define_index.Goals as goal

pub returns-then-row-eq0 : goal.returns-then-row-eq0
returns-then-row-eq0 m c = index-none _ _ _ c.requires.0 _ c.if-row-eq0.true _ _ _ _

-- The row that was read.
row_is : (m : ℕ) (c : After-row_at-w m)
    → c.row_at-w.result ≡ row_at c.args.tables.now c.args.row
row_is m c = c.row_at-w.ensures ∙ row-fields _ _

pub define_var-n-requires : goal.define_var-n-requires
define_var-n-requires m c =
    let pre = c.requires in (
      c.in-Var.ensures,
      rw (row_is m (goal.at.define_var-n-requires m c).After-row_at-w) (low-name _ pre.0 _ c.if-row-eq0.false pre.1),
      leaf_fits _ _ _ pre.0 _ c.if-row-eq0.false pre.1 _ (row_is m (goal.at.define_var-n-requires m c).After-row_at-w) _ refl _ c.next_of-next.ensures c.args.statement c.args.used _ _ pre.2,
    )

-- The call on the first part of a pattern.
row_is-at-After-from : (m : ℕ) (c : After-from m)
    → c.row_at-w.result ≡ row_at c.args.tables.now c.args.row
row_is-at-After-from m c = c.row_at-w.ensures ∙ row-fields _ _

first-asks : (m : ℕ) (c : After-from m)
    → let a = c.args in
    let w = c.row_at-w.result in
    OneOf c.from.result patterns
    → (remains a.tables.now w.first < m)
    × (Accepted a.tables.now × (w.first ≤ expr_count a.tables.now) × IndexFits a.tables.now a.width a.scope w.first a.count (length a.definitions.now))
first-asks m c items =
    let a = c.args in
    let pre = c.requires in
    let r = row_is-at-After-from m c in
    let w = c.row_at-w.result in
    let p : is_pattern w ≡ true = items_pattern w c.from.ensures items in
    let is : w.first ≡ cond (is_pattern w) w.first 0 = sym (rw p) in
    let k = first_call _ pre.0 _ c.if-row-eq0.false pre.1 m c.decreases _ r in (
      k.0,
      (
        pre.0,
        k.1,
        inner_fits _ _ _ pre.0 _ c.if-row-eq0.false pre.1 _ r _ is _ c.next_of-next.ensures _ _ _ _ pre.2
            _ _ _ (leaf_undefined a.width a.scope a.statement w a.used a.definitions.now a.count (no_var w p)) _ refl,
      ),
    )

pub define_index-n-requires : goal.define_index-n-requires
define_index-n-requires m c = first-asks m (goal.at.define_index-n-requires m c).After-from (inl c.in-Array.is)

pub define_index-n-requires-in-Object : goal.define_index-n-requires-in-Object
define_index-n-requires-in-Object m c = first-asks m (goal.at.define_index-n-requires-in-Object m c).After-from (inr c.in-Object.is)

-- The match: the leaf's own step, or the parts.
turn : (m : ℕ) (c : Joined-from m)
    →
    let a = c.args in
    IndexTurn a.tables.now a.width a.scope a.statement c.row_at-w.result a.used (a.count, a.definitions.now) (c.match-from.n, c.match-from.definitions)
turn m c =
    let g = c.args in
    let none : (a : ℕ × List ℕ) → Lengthwise (λ x ws y rs. IndexDefined g.tables.now g.width g.scope g.statement 0 g.used ws rs x y) a a =
    λ a. (index-none _ _ _ c.requires.0 0 refl _ _ a.1 a.0, refl) in
    let still : is_var c.row_at-w.result ≡ false → (a : ℕ × List ℕ) → Lengthwise (λ x ws y rs. LeafDefined g.width g.scope g.statement c.row_at-w.result g.used ws rs x y) a a =
    λ e a. (leaf_undefined _ _ _ c.row_at-w.result _ a.1 a.0 e, refl) in
    elim c.match-from.branch [
      | in-String w ↦ leaves_arm none still _ c.from.ensures constants refl w.in-String.is (λ i. (w.n-is i, w.definitions-is i))
      | in-Var w ↦ var_arm none still c.from.ensures w.in-Var.is (w.define_var-n.ensures, w.define_var-n.auto.definitions) (λ i. (w.n-is i, w.definitions-is i))
      | in-Array w ↦ items_arm none still c.from.ensures (inl w.in-Array.is) (w.define_index-n.ensures, w.define_index-n.auto.definitions) (λ i. (w.n-is i, w.definitions-is i))
      | in-Set w ↦ leaves_arm none still _ c.from.ensures (kind.Set ∷ []) refl w.in-Set.is (λ i. (w.n-is i, w.definitions-is i))
      | in-Object w ↦
          items_arm none still c.from.ensures (inr w.in-Object.is) (w.define_index-n-in-Object.ensures, w.define_index-n-in-Object.auto.definitions) (λ i. (w.n-is i, w.definitions-is i))
      | in-ArrayCompr w ↦ leaves_arm none still _ c.from.ensures behind_patterns refl w.in-ArrayCompr.is (λ i. (w.n-is i, w.definitions-is i))
    ]

kept : (m : ℕ) (c : Joined-from m)
    → length c.match-from.definitions ≡ length c.args.definitions.now
kept m c = (turn m c).parts.1 ∙ (turn m c).step.1

-- With the walk over the rest of the chain.
row_is-at-Joined-from : (m : ℕ) (c : Joined-from m)
    → c.row_at-w.result ≡ row_at c.args.tables.now c.args.row
row_is-at-Joined-from m c = c.row_at-w.ensures ∙ row-fields _ _

turned : (m : ℕ) (c : Joined-from m) (y : ℕ) (l : List ℕ)
    →
    let a = c.args in
    IndexDefined a.tables.now a.width a.scope a.statement c.next_of-next.result a.used c.match-from.definitions l c.match-from.n y
    → IndexDefined a.tables.now a.width a.scope a.statement a.row a.used a.definitions.now l a.count y
turned m c y l rest =
    let pre = c.requires in
    index-turn _ _ _ pre.0 _ c.if-row-eq0.false pre.1 _ (row_is-at-Joined-from m c) _ refl _ c.next_of-next.ensures
    _ _ _ _ _ _ _ _ _ _ (turn m c).step.0 (turn m c).parts.0 rest

pub returns-then-next-eq0 : goal.returns-then-next-eq0
returns-then-next-eq0 m c =
    let pre = c.requires in
    turned m (goal.at.returns-then-next-eq0 m c).Joined-from _ _ (index-none _ _ _ pre.0 _ c.if-next-eq0.true _ _ _ _)

pub define_index-requires : goal.define_index-requires
define_index-requires m c =
    let pre = c.requires in
    let k = next_call _ pre.0 _ c.if-row-eq0.false pre.1 m c.decreases true _ (row_is m (goal.at.define_index-requires m c).After-row_at-w) _ c.next_of-next.ensures in (
      k.0,
      (
        pre.0,
        k.1,
        next_fits _ _ _ pre.0 _ c.if-row-eq0.false pre.1 _ (row_is m (goal.at.define_index-requires m c).After-row_at-w) _ refl _ c.next_of-next.ensures
            _ _ _ _ pre.2 _ _ _ (turn m (goal.at.define_index-requires m c).Joined-from).step.0 _ _ (turn m (goal.at.define_index-requires m c).Joined-from).parts.0 _ (kept m (goal.at.define_index-requires m c).Joined-from),
      ),
    )

pub returns : goal.returns
returns m c = turned m (goal.at.returns m c).Joined-from _ _ c.define_index.ensures
