-- The walk goes on to later rows only, and what the calls on the way list is what a row's turn lists.
use mathlib.Core.Path.{◌≡◌, refl, ◌∙◌}
use mathlib.Core.Bool.{true}
use mathlib.Core.List.{List, [], ◌∷◌}
use mathlib.Core.Logic.{inl, inr}
use Prim.Native.Nat.{ℕ, ◌≤◌, ◌<◌}
use native.Mathlib.Omega.{arith}
use lib.ListN.{length}
use borrow.Fn.PlainCycle.{is}
use Rattle.base.specs.Limits as limits
use Rattle.sheet.specs.Kinds.{is_compr}
use Rattle.sheet.specs.Inner.Sheet.{row_at}
use Rattle.sheet.proofs.Laws.Sheet.{row-fields}
use Rattle.scope_walk.proofs.Laws.Walking.{Calls, row_low, calls, past_guard}
use Rattle.definition_comprs.specs.Inner.Lists.{Lists, comprs_by, AtRow}
use Rattle.definition_comprs.proofs.Laws.Lists.{lists_none, PartsRoom, row_room, own-fits, lists_turn, ListTurn, compr_among, lists_still, lists_compr}
use Rattle.scope_walk.proofs.Laws.Arms.{plain_arm, acting_arm}
use Rattle.scope_walk.proofs.Laws.Numbers.{constants, collections, compr_kinds, wrappers, operators}
use Rattle.sheet.specs.declared.kinds.Kind.TheVariants as kind
use Rattle.definition_comprs.proofs.list.+list_comprs.Goals.{After-row_at-w, Joined-k-ne0, Joined-k-ne0-2, Joined-k-ne0-3, Joined-from}
use Rattle.definition_comprs.proofs.list.+list_comprs.Goals.{in-String, in-Var, in-Array, in-ArrayCompr, in-Call, in-UnaryExpr, in-RefBrack, in-BinExpr, in-Membership, in-Unknown, then-k-ne0, else-k-ne0, then-k-ne0-2, else-k-ne0-2, then-k-ne0-3, else-k-ne0-3}
use Rattle.definition_comprs.proofs.list.+list_comprs.Goals as goal

pub returns-then-row-eq0 : goal.returns-then-row-eq0
returns-then-row-eq0 m c =
    lists_none _ c.requires.accepted _ c.if-row-eq0.true c.args.rest _ _

pub row_at-w-requires : goal.row_at-w-requires
row_at-w-requires m c =
    let pre = c.requires in
    (pre.accepted.room, row_low _ pre.accepted _ c.if-row-eq0.false pre.row_in)

-- The row that was read.
row_is : (m : ℕ) (c : After-row_at-w m)
    → c.row_at-w.result ≡ row_at c.args.tables.now c.args.row
row_is m c = c.row_at-w.ensures ∙ row-fields _ _

-- There is room for the row, where it is a comprehension.
fits : (m : ℕ) (c : After-row_at-w m) → is_compr c.row_at-w.result ≡ true
    → let a = c.args in (a.row ≤ limits.most_expressions) × (a.count < length a.rows.now)
fits m r is =
    let a = r.args in
    let pre = r.requires in (
      row_low _ pre.accepted _ r.if-row-eq0.false pre.row_in,
      own-fits _ pre.accepted _ r.if-row-eq0.false pre.row_in _ (row_is m r) a.rest _ refl _ refl a.rows.now a.count pre.room is,
    )

-- The match: what is done at the row, and its children.
turn : (m : ℕ) (c : Joined-from m)
    →
    let a = c.args in
    ListTurn c.row_at-w.result a.row (a.count, a.rows.now) (c.match-from.n, c.match-from.rows) c.match-from.k
turn m c =
    let w = c.row_at-w.result in
    let a = c.args in
    let row = a.row in
    let s : ℕ × List ℕ = (a.count, a.rows.now) in
    let still = lists_still w row s c.from.result c.from.ensures in
    elim c.match-from.branch [
      | in-String x ↦ plain_arm still constants x.in-String.is refl (λ i. (x.n-is i, x.rows-is i)) (x.k-is ∙ x.none-k.ensures)
      | in-Var x ↦ plain_arm still (kind.Var ∷ []) x.in-Var.is refl (λ i. (x.n-is i, x.rows-is i)) (x.k-is ∙ x.none-k-in-Var.ensures)
      | in-Array x ↦ plain_arm still collections x.in-Array.is refl (λ i. (x.n-is i, x.rows-is i)) (x.k-is ∙ x.one-k.ensures)
      | in-ArrayCompr x ↦
          acting_arm still compr_kinds x.in-ArrayCompr.is refl (lists_compr w row s (compr_among w c.from.ensures x.in-ArrayCompr.is) _ x.list_row-n.ensures) (λ i. (x.n-is i, x.rows-is i))
          (x.k-is ∙ x.none-k-in-ArrayCompr.ensures)
      | in-Call x ↦ plain_arm still (kind.Call ∷ []) x.in-Call.is refl (λ i. (x.n-is i, x.rows-is i)) (x.k-is ∙ x.one-k-in-Call.ensures)
      | in-UnaryExpr x ↦ plain_arm still wrappers x.in-UnaryExpr.is refl (λ i. (x.n-is i, x.rows-is i)) (x.k-is ∙ x.one-k-in-UnaryExpr.ensures)
      | in-RefBrack x ↦ plain_arm still (kind.RefBrack ∷ []) x.in-RefBrack.is refl (λ i. (x.n-is i, x.rows-is i)) (x.k-is ∙ x.two-k.ensures)
      | in-BinExpr x ↦ plain_arm still operators x.in-BinExpr.is refl (λ i. (x.n-is i, x.rows-is i)) (grind arith)
      | in-Membership x ↦ plain_arm still (kind.Membership ∷ []) x.in-Membership.is refl (λ i. (x.n-is i, x.rows-is i)) (x.k-is ∙ x.three-k.ensures)
      | in-Unknown x ↦ plain_arm still (kind.Unknown ∷ []) x.in-Unknown.is refl (λ i. (x.n-is i, x.rows-is i)) (x.k-is ∙ x.none-k-in-Unknown.ensures)
    ]

pub list_row-n-requires : goal.list_row-n-requires
list_row-n-requires m c = fits m (goal.at.list_row-n-requires m c).After-row_at-w (compr_among c.row_at-w.result c.from.ensures c.in-ArrayCompr.is)

row_is-at-Joined-from : (m : ℕ) (c : Joined-from m)
    → c.row_at-w.result ≡ row_at c.args.tables.now c.args.row
row_is-at-Joined-from m c = c.row_at-w.ensures ∙ row-fields _ _

ready : (m : ℕ) (c : Joined-from m)
    →
    Calls c.args.tables.now m c.args.rest c.row_at-w.result c.match-from.k
ready m c =
    calls _ c.requires.accepted _ c.if-row-eq0.false c.requires.row_in m c.decreases _ _ (row_is-at-Joined-from m c) _ (turn m c).kids

-- There is room for what the calls list, one after the other.
rooms : (m : ℕ) (c : Joined-from m)
    → PartsRoom c.args.tables.now c.match-from.k c.next_of-next.result (length c.match-from.rows) c.match-from.n
rooms m c =
    let pre = c.requires in
    row_room _ pre.accepted _ c.if-row-eq0.false pre.row_in _ (row_is-at-Joined-from m c) c.args.rest _ (turn m c).kids _ c.next_of-next.ensures _ _ _ _ pre.room (turn m c).step

pub list_comprs-n-requires : goal.list_comprs-n-requires
list_comprs-n-requires m c =
    let pre = c.requires in
    let k = (ready m (goal.at.list_comprs-n-requires m c).Joined-from).first in
    (k.0, record { accepted = pre.accepted; row_in = k.1; room = omega (arith, rooms m (goal.at.list_comprs-n-requires m c).Joined-from) })

-- From the list and how many it has, to those after the walk over row n.
abbrev State : Type 0
State = ℕ × List ℕ

abbrev Walked : List ℕ → ℕ → State → State → Type 0
Walked t n a b = Lists t (AtRow t n) (comprs_by t true n) a.1 a.0 b.1 b.0

-- The three parts, each walked where there is one.
first_walk : (m : ℕ) (c : Joined-k-ne0 m)
    →
    Walked c.args.tables.now c.match-from.k.first (c.match-from.n, c.match-from.rows) (c.if-k-ne0.n, c.if-k-ne0.rows)
first_walk m c =
    elim c.if-k-ne0.branch [
      | then-k-ne0 w ↦ past_guard (Walked c.args.tables.now) (λ a. lists_none _ c.requires.accepted _ refl true a.1 a.0) _ _ _ (λ w. w) (λ w. w) (inl (_, w.list_comprs-n.ensures, λ i. (w.n-is i, w.rows-is i)))
      | else-k-ne0 w ↦ past_guard (Walked c.args.tables.now) (λ a. lists_none _ c.requires.accepted _ refl true a.1 a.0) _ _ _ (λ w. w) (λ w. w) (inr (w.if-k-ne0.false, λ i. (w.n-is i, w.rows-is i)))
    ]

pub list_comprs-n-requires-then-k-ne0-2 : goal.list_comprs-n-requires-then-k-ne0-2
list_comprs-n-requires-then-k-ne0-2 m c =
    let pre = c.requires in
    let k = (ready m (goal.at.list_comprs-n-requires-then-k-ne0-2 m c).Joined-from).second in
    let w1 = first_walk m (goal.at.list_comprs-n-requires-then-k-ne0-2 m c).Joined-k-ne0 in
    (k.0, record { accepted = pre.accepted; row_in = k.1; room = omega (arith, rooms m (goal.at.list_comprs-n-requires-then-k-ne0-2 m c).Joined-from, w1.end_is, w1.long) })

second_walk : (m : ℕ) (c : Joined-k-ne0-2 m)
    →
    Walked c.args.tables.now c.match-from.k.second (c.if-k-ne0.n, c.if-k-ne0.rows) (c.if-k-ne0-2.n, c.if-k-ne0-2.rows)
second_walk m c =
    elim c.if-k-ne0-2.branch [
      | then-k-ne0-2 w ↦ past_guard (Walked c.args.tables.now) (λ a. lists_none _ c.requires.accepted _ refl true a.1 a.0) _ _ _ (λ w. w) (λ w. w) (inl (_, w.list_comprs-n-then-k-ne0-2.ensures, λ i. (w.n-is i, w.rows-is i)))
      | else-k-ne0-2 w ↦ past_guard (Walked c.args.tables.now) (λ a. lists_none _ c.requires.accepted _ refl true a.1 a.0) _ _ _ (λ w. w) (λ w. w) (inr (w.if-k-ne0-2.false, λ i. (w.n-is i, w.rows-is i)))
    ]

pub list_comprs-n-requires-then-k-ne0-3 : goal.list_comprs-n-requires-then-k-ne0-3
list_comprs-n-requires-then-k-ne0-3 m c =
    let pre = c.requires in
    let k = (ready m (goal.at.list_comprs-n-requires-then-k-ne0-3 m c).Joined-from).third in
    let w1 = first_walk m (goal.at.list_comprs-n-requires-then-k-ne0-3 m c).Joined-k-ne0 in
    let w2 = second_walk m (goal.at.list_comprs-n-requires-then-k-ne0-3 m c).Joined-k-ne0-2 in
    (k.0, record { accepted = pre.accepted; row_in = k.1; room = omega (arith, rooms m (goal.at.list_comprs-n-requires-then-k-ne0-3 m c).Joined-from, w1.end_is, w1.long, w2.end_is, w2.long) })

third-walk : (m : ℕ) (c : Joined-k-ne0-3 m)
    →
    Walked c.args.tables.now c.match-from.k.third (c.if-k-ne0-2.n, c.if-k-ne0-2.rows) (c.if-k-ne0-3.n, c.if-k-ne0-3.rows)
third-walk m c =
    elim c.if-k-ne0-3.branch [
      | then-k-ne0-3 w ↦ past_guard (Walked c.args.tables.now) (λ a. lists_none _ c.requires.accepted _ refl true a.1 a.0) _ _ _ (λ w. w) (λ w. w) (inl (_, w.list_comprs-n-then-k-ne0-3.ensures, λ i. (w.n-is i, w.rows-is i)))
      | else-k-ne0-3 w ↦ past_guard (Walked c.args.tables.now) (λ a. lists_none _ c.requires.accepted _ refl true a.1 a.0) _ _ _ (λ w. w) (λ w. w) (inr (w.if-k-ne0-3.false, λ i. (w.n-is i, w.rows-is i)))
    ]

pub list_comprs-requires : goal.list_comprs-requires
list_comprs-requires m c =
    let pre = c.requires in
    let k = (ready m (goal.at.list_comprs-requires m c).Joined-from).next in
    let w1 = first_walk m (goal.at.list_comprs-requires m c).Joined-k-ne0 in
    let w2 = second_walk m (goal.at.list_comprs-requires m c).Joined-k-ne0-2 in
    let w3 = third-walk m (goal.at.list_comprs-requires m c).Joined-k-ne0-3 in (
      rw c.next_of-next.ensures k.0,
      record {
        accepted = pre.accepted;
        row_in = rw c.next_of-next.ensures k.1;
        room = omega (arith, rooms m (goal.at.list_comprs-requires m c).Joined-from, w1.end_is, w1.long, w2.end_is, w2.long, w3.end_is, w3.long);
      },
    )

-- The turn of a row, with the walk over the rest of its chain.
turned : (m : ℕ) (c : Joined-k-ne0-3 m) (b : List ℕ) (end : ℕ)
    →
    let a = c.args in
    ListTurn c.row_at-w.result a.row (a.count, a.rows.now) (c.match-from.n, c.match-from.rows) c.match-from.k
    → Walked a.tables.now c.match-from.k.first (c.match-from.n, c.match-from.rows) (c.if-k-ne0.n, c.if-k-ne0.rows)
    → Walked a.tables.now c.match-from.k.second (c.if-k-ne0.n, c.if-k-ne0.rows) (c.if-k-ne0-2.n, c.if-k-ne0-2.rows)
    → Walked a.tables.now c.next_of-next.result (c.if-k-ne0-3.n, c.if-k-ne0-3.rows) (end, b)
    → Lists a.tables.now (AtRow a.tables.now a.row) (comprs_by a.tables.now a.rest a.row) a.rows.now a.count b end
turned m c b end own first second rest =
    let pre = c.requires in
    lists_turn _ pre.accepted _ c.if-row-eq0.false pre.row_in _ (c.row_at-w.ensures ∙ row-fields _ _) c.args.rest _ own.kids _ c.next_of-next.ensures _ _ _ _ _ _ _ _ _ _ _ _ pre.room own.step
    first second (third-walk m c) rest

pub returns-then-next-eq0 : goal.returns-then-next-eq0
returns-then-next-eq0 m c =
    let p = goal.at.returns-then-next-eq0 m c in
    turned m p.Joined-k-ne0-3 _ _ (turn m p.Joined-from) (first_walk m p.Joined-k-ne0) (second_walk m p.Joined-k-ne0-2)
    (lists_none _ c.requires.accepted _ c.if-next-eq0.true true _ _)

pub returns : goal.returns
returns m c =
    let p = goal.at.returns m c in
    turned m p.Joined-k-ne0-3 _ _ (turn m p.Joined-from) (first_walk m p.Joined-k-ne0) (second_walk m p.Joined-k-ne0-2) c.list_comprs.ensures

pub shape_of-rows-then-next-eq0 : goal.shape_of-rows-then-next-eq0
shape_of-rows-then-next-eq0 m c =
    let p = goal.at.shape_of-rows-then-next-eq0 m c in
    (turned m p.Joined-k-ne0-3 _ _ (turn m p.Joined-from) (first_walk m p.Joined-k-ne0) (second_walk m p.Joined-k-ne0-2)
    (lists_none _ c.requires.accepted _ c.if-next-eq0.true true _ _)).long

pub shape_of-rows : goal.shape_of-rows
shape_of-rows m c =
    let p = goal.at.shape_of-rows m c in
    (turned m p.Joined-k-ne0-3 _ _ (turn m p.Joined-from) (first_walk m p.Joined-k-ne0) (second_walk m p.Joined-k-ne0-2) c.list_comprs.ensures).long
