-- The walk goes on to later rows only, and what the calls on the way do together is a row's turn (`uses_walked_turn`).
use mathlib.Core.Path.{◌≡◌, refl, ◌∙◌}
use mathlib.Core.Bool.{true}
use mathlib.Core.List.{[], ◌∷◌}
use mathlib.Core.Logic.{inl, inr}
use Prim.Native.Nat.{ℕ}
use native.Mathlib.Omega.{arith}
use lib.ListN.{length}
use Rattle.sheet.specs.Inner.Sheet.{row_at}
use Rattle.sheet.proofs.Laws.Sheet.{row-fields}
use Rattle.scope_walk.proofs.Laws.Walking.{Calls, low-name, calls}
use Rattle.definition_walk.proofs.Laws.UsedVars.{second_of-row_low}
use Rattle.scope_walk.proofs.Laws.Arms.{plain_arm, acting_arm}
use Rattle.scope_walk.proofs.Laws.Numbers.{constants, collections, compr_kinds, wrappers, operators}
use Rattle.sheet.specs.declared.kinds.Kind.TheVariants as kind
use Rattle.definition_walk.proofs.Laws.Founds.{FoundTurn, found_still, found_at-bracket, found_at-compr}
use Rattle.definition_walk.specs.Inner.Defining.{UsesWalked}
use Rattle.definition_walk.proofs.Laws.Defining.{uses_walked_none, guarded-walk, first-room, here-fits, second-room, third-room, next-room, uses_walked_turn}
use Rattle.definition_walk.proofs.vars.+used_from.Goals.{After-row_at-w, Joined-k-ne0, Joined-k-ne0-2, Joined-k-ne0-3, Joined-from}
use Rattle.definition_walk.proofs.vars.+used_from.Goals.{in-String, in-Var, in-Array, in-ArrayCompr, in-Call, in-UnaryExpr, in-RefBrack, in-BinExpr, in-Membership, in-Unknown, then-k-ne0, else-k-ne0, then-k-ne0-2, else-k-ne0-2, then-k-ne0-3, else-k-ne0-3}
use Rattle.definition_walk.proofs.vars.+used_from.Goals as goal

pub returns-then-row-eq0 : goal.returns-then-row-eq0
returns-then-row-eq0 m c =
    uses_walked_none _ _ _ _ _ c.requires.accepted _ c.if-row-eq0.true c.args.rest _ _ _

-- The row that was read.
row_is : (m : ℕ) (c : After-row_at-w m)
    → c.row_at-w.result ≡ row_at c.args.tables.now c.args.row
row_is m c = c.row_at-w.ensures ∙ row-fields _ _

pub use_var-own-requires : goal.use_var-own-requires
use_var-own-requires m c =
    let pre = c.requires in record {
      tables-room = pre.accepted.room;
      var = c.in-Var.ensures;
      name-low = rw (row_is m (goal.at.use_var-own-requires m c).After-row_at-w) (low-name _ pre.accepted _ c.if-row-eq0.false pre.row_in);
      row_in = pre.row_in;
      firsts_room = pre.firsts_room;
    }

pub use_index-own-requires : goal.use_index-own-requires
use_index-own-requires m c =
    let pre = c.requires in
    (pre.accepted, rw (row_is m (goal.at.use_index-own-requires m c).After-row_at-w) (second_of-row_low _ pre.accepted _ c.if-row-eq0.false pre.row_in))

-- The match: what is done at the row, and its children.
turn : (m : ℕ) (c : Joined-from m)
    →
    let a = c.args in
    FoundTurn a.tables.now a.scope a.extras a.row c.row_at-w.result (a.used, a.firsts.now) (c.match-from.own, c.match-from.firsts) c.match-from.k
turn m c =
    let w = c.row_at-w.result in
    let a = c.args in
    let t = a.tables.now in
    let k = a.scope in
    let e = a.extras in
    let n = a.row in
    let u = a.used in
    let ws = a.firsts.now in
    let still = found_still t k e n w u ws c.from.result c.from.ensures in
    elim c.match-from.branch [
      | in-String x ↦ plain_arm still constants x.in-String.is refl (λ i. (x.own-is i, x.firsts-is i)) (cc)
      | in-Var x ↦ acting_arm still (kind.Var ∷ []) x.in-Var.is refl (x.use_var-own.ensures, x.use_var-own.auto.firsts) (λ i. (x.own-is i, x.firsts-is i)) (cc)
      | in-Array x ↦ plain_arm still collections x.in-Array.is refl (λ i. (x.own-is i, x.firsts-is i)) (cc)
      | in-ArrayCompr x ↦
          acting_arm still compr_kinds x.in-ArrayCompr.is refl (found_at-compr t k e n w u ws _ c.from.ensures x.in-ArrayCompr.is _ x.with_compr-own.ensures) (λ i. (x.own-is i, x.firsts-is i)) (cc)
      | in-Call x ↦ plain_arm still (kind.Call ∷ []) x.in-Call.is refl (λ i. (x.own-is i, x.firsts-is i)) (cc)
      | in-UnaryExpr x ↦ plain_arm still wrappers x.in-UnaryExpr.is refl (λ i. (x.own-is i, x.firsts-is i)) (cc)
      | in-RefBrack x ↦
          acting_arm still (kind.RefBrack ∷ []) x.in-RefBrack.is refl (found_at-bracket t k e n w u ws x.in-RefBrack.ensures _ x.use_index-own.ensures) (λ i. (x.own-is i, x.firsts-is i)) (cc)
      | in-BinExpr x ↦ plain_arm still operators x.in-BinExpr.is refl (λ i. (x.own-is i, x.firsts-is i)) (grind arith)
      | in-Membership x ↦ plain_arm still (kind.Membership ∷ []) x.in-Membership.is refl (λ i. (x.own-is i, x.firsts-is i)) (cc)
      | in-Unknown x ↦ plain_arm still (kind.Unknown ∷ []) x.in-Unknown.is refl (λ i. (x.own-is i, x.firsts-is i)) (cc)
    ]

ready : (m : ℕ) (c : Joined-from m)
    →
    Calls c.args.tables.now m c.args.rest c.row_at-w.result c.match-from.k
ready m c =
    calls _ c.requires.accepted _ c.if-row-eq0.false c.requires.row_in m c.decreases _ _ (c.row_at-w.ensures ∙ row-fields _ _) _ (turn m c).kids

pub used_from-part-requires : goal.used_from-part-requires
used_from-part-requires m c =
    let pre = c.requires in
    let p = goal.at.used_from-part-requires m c in
    let r = row_is m p.After-row_at-w in
    let t = turn m p.Joined-from in
    let k = (ready m p.Joined-from).first in (
      k.0,
      record {
        accepted = pre.accepted;
        row_in = k.1;
        firsts_room = omega (arith, pre.firsts_room, t.step.1);
        room = first-room _ _ _ _ _ pre.accepted _ c.if-row-eq0.false pre.row_in c.args.rest _ r _ t.kids _ c.next_of-next.ensures
            c.args.used _ pre.room c.match-from.own c.fresh-part.result t.step.0.count c.fresh-part.ensures;
      },
    )

-- ---- the three parts, each walked where there is one
first_walk : (m : ℕ) (c : Joined-k-ne0 m)
    →
    let a = c.args in
    UsesWalked a.tables.now a.width a.scope a.extras a.statement c.match-from.k.first true c.fresh-part.result c.match-from.firsts a.definitions.now c.if-k-ne0.part c.if-k-ne0.firsts c.if-k-ne0.definitions
    × (length c.if-k-ne0.firsts ≡ length c.match-from.firsts) × (length c.if-k-ne0.definitions ≡ length a.definitions.now)
first_walk m c =
    guarded-walk _ _ _ _ _ c.requires.accepted _ _ _ _ _ _ _ (λ w. w) (λ w. w) (elim c.if-k-ne0.branch [
      | then-k-ne0 w ↦ inl (_, _, _, w.used_from-part.ensures, w.used_from-part.auto.firsts, w.used_from-part.auto.definitions, w.firsts-is, w.definitions-is, w.part-is)
      | else-k-ne0 w ↦ inr (w.if-k-ne0.false, w.firsts-is, w.definitions-is, w.part-is)
    ])

pub used_here-s-requires : goal.used_here-s-requires
used_here-s-requires m c =
    let pre = c.requires in
    let p = goal.at.used_here-s-requires m c in
    let r = row_is m p.After-row_at-w in
    let t = turn m p.Joined-from in
    let x = first_walk m p.Joined-k-ne0 in (
      pre.accepted,
      rw r (second_of-row_low _ pre.accepted _ c.if-row-eq0.false pre.row_in),
      here-fits _ _ _ _ _ pre.accepted _ c.if-row-eq0.false pre.row_in c.args.rest _ r _ t.kids _ c.next_of-next.ensures
          c.args.used _ pre.room c.match-from.own c.fresh-part.result t.step.0.count c.fresh-part.ensures _ _ _ _ _ x.0 _ x.2,
    )

pub used_from-s-requires : goal.used_from-s-requires
used_from-s-requires m c =
    let pre = c.requires in
    let p = goal.at.used_from-s-requires m c in
    let r = row_is m p.After-row_at-w in
    let t = turn m p.Joined-from in
    let x = first_walk m p.Joined-k-ne0 in
    let k = (ready m p.Joined-from).second in (
      k.0,
      record {
        accepted = pre.accepted;
        row_in = k.1;
        firsts_room = omega (arith, pre.firsts_room, x.1, t.step.1);
        room = second-room _ _ _ _ _ pre.accepted _ c.if-row-eq0.false pre.row_in c.args.rest _ r _ t.kids _ c.next_of-next.ensures
            c.args.used _ pre.room c.match-from.own c.fresh-part.result t.step.0.count c.fresh-part.ensures _ _ _ _ _ x.0 _ _ c.used_here-s.ensures _
            (c.used_here-s.auto.definitions ∙ x.2);
      },
    )

second_walk : (m : ℕ) (c : Joined-k-ne0-2 m)
    →
    let a = c.args in
    UsesWalked a.tables.now a.width a.scope a.extras a.statement c.match-from.k.second true c.used_here-s.result c.if-k-ne0.firsts c.used_here-s.new.definitions c.if-k-ne0-2.s c.if-k-ne0-2.firsts c.if-k-ne0-2.definitions
    × (length c.if-k-ne0-2.firsts ≡ length c.if-k-ne0.firsts) × (length c.if-k-ne0-2.definitions ≡ length c.used_here-s.new.definitions)
second_walk m c =
    guarded-walk _ _ _ _ _ c.requires.accepted _ _ _ _ _ _ _ (λ w. w) (λ w. w) (elim c.if-k-ne0-2.branch [
      | then-k-ne0-2 w ↦ inl (_, _, _, w.used_from-s.ensures, w.used_from-s.auto.firsts, w.used_from-s.auto.definitions, w.firsts-is, w.definitions-is, w.s-is)
      | else-k-ne0-2 w ↦ inr (w.if-k-ne0-2.false, w.firsts-is, w.definitions-is, w.s-is)
    ])

pub used_from-s-requires-then-k-ne0-3 : goal.used_from-s-requires-then-k-ne0-3
used_from-s-requires-then-k-ne0-3 m c =
    let pre = c.requires in
    let p = goal.at.used_from-s-requires-then-k-ne0-3 m c in
    let r = row_is m p.After-row_at-w in
    let t = turn m p.Joined-from in
    let x = first_walk m p.Joined-k-ne0 in
    let y = second_walk m p.Joined-k-ne0-2 in
    let k = (ready m p.Joined-from).third in (
      k.0,
      record {
        accepted = pre.accepted;
        row_in = k.1;
        firsts_room = omega (arith, pre.firsts_room, y.1, x.1, t.step.1);
        room = third-room _ _ _ _ _ pre.accepted _ c.if-row-eq0.false pre.row_in c.args.rest _ r _ t.kids _ c.next_of-next.ensures
            c.args.used _ pre.room c.match-from.own c.fresh-part.result t.step.0.count c.fresh-part.ensures _ _ _ _ _ x.0 _ _ c.used_here-s.ensures _ _ _ y.0 _
            (y.2 ∙ c.used_here-s.auto.definitions ∙ x.2);
      },
    )

third_walk : (m : ℕ) (c : Joined-k-ne0-3 m)
    →
    let a = c.args in
    UsesWalked a.tables.now a.width a.scope a.extras a.statement c.match-from.k.third true c.if-k-ne0-2.s c.if-k-ne0-2.firsts c.if-k-ne0-2.definitions c.if-k-ne0-3.s c.if-k-ne0-3.firsts c.if-k-ne0-3.definitions
    × (length c.if-k-ne0-3.firsts ≡ length c.if-k-ne0-2.firsts) × (length c.if-k-ne0-3.definitions ≡ length c.if-k-ne0-2.definitions)
third_walk m c =
    guarded-walk _ _ _ _ _ c.requires.accepted _ _ _ _ _ _ _ (λ w. w) (λ w. w) (elim c.if-k-ne0-3.branch [
      | then-k-ne0-3 w ↦ inl (_, _, _, w.used_from-s-then-k-ne0-3.ensures, w.used_from-s-then-k-ne0-3.auto.firsts, w.used_from-s-then-k-ne0-3.auto.definitions, w.firsts-is, w.definitions-is, w.s-is)
      | else-k-ne0-3 w ↦ inr (w.if-k-ne0-3.false, w.firsts-is, w.definitions-is, w.s-is)
    ])

pub returns-then-next-eq0 : goal.returns-then-next-eq0
returns-then-next-eq0 m c =
    let pre = c.requires in
    let p = goal.at.returns-then-next-eq0 m c in
    let r = row_is m p.After-row_at-w in
    let t = turn m p.Joined-from in
    uses_walked_turn _ _ _ _ _ pre.accepted _ c.if-row-eq0.false pre.row_in c.args.rest _ r _ t.kids _ c.next_of-next.ensures
    _ _ _ _ _ _ _ _ _ _ _ _ _ _ _ _ _ _ _ _ t.step.0 c.fresh-part.ensures (first_walk m p.Joined-k-ne0).0 c.used_here-s.ensures
    (second_walk m p.Joined-k-ne0-2).0 (third_walk m p.Joined-k-ne0-3).0 (uses_walked_none _ _ _ _ _ pre.accepted _ c.if-next-eq0.true true _ _ _)

pub used_from-requires : goal.used_from-requires
used_from-requires m c =
    let pre = c.requires in
    let p = goal.at.used_from-requires m c in
    let r = row_is m p.After-row_at-w in
    let t = turn m p.Joined-from in
    let x = first_walk m p.Joined-k-ne0 in
    let y = second_walk m p.Joined-k-ne0-2 in
    let z = third_walk m p.Joined-k-ne0-3 in
    let k = (ready m p.Joined-from).next in (
      rw c.next_of-next.ensures k.0,
      record {
        accepted = pre.accepted;
        row_in = rw c.next_of-next.ensures k.1;
        firsts_room = omega (arith, pre.firsts_room, z.1, y.1, x.1, t.step.1);
        room = next-room _ _ _ _ _ pre.accepted _ c.if-row-eq0.false pre.row_in c.args.rest _ r _ t.kids _ c.next_of-next.ensures
            c.args.used _ pre.room c.match-from.own c.fresh-part.result t.step.0.count c.fresh-part.ensures _ _ _ _ _ x.0 _ _ c.used_here-s.ensures _ _ _ y.0 _ _ _ z.0 _
            (z.2 ∙ y.2 ∙ c.used_here-s.auto.definitions ∙ x.2);
      },
    )

pub returns : goal.returns
returns m c =
    let pre = c.requires in
    let p = goal.at.returns m c in
    let r = row_is m p.After-row_at-w in
    let t = turn m p.Joined-from in
    uses_walked_turn _ _ _ _ _ pre.accepted _ c.if-row-eq0.false pre.row_in c.args.rest _ r _ t.kids _ c.next_of-next.ensures
    _ _ _ _ _ _ _ _ _ _ _ _ _ _ _ _ _ _ _ _ t.step.0 c.fresh-part.ensures (first_walk m p.Joined-k-ne0).0 c.used_here-s.ensures
    (second_walk m p.Joined-k-ne0-2).0 (third_walk m p.Joined-k-ne0-3).0 c.used_from.ensures
