-- The walk goes on to later rows only, and what the calls on the way do is a row's turn (`input_walk_turn`).
use mathlib.Core.Path.{◌≡◌, refl, sym, ◌∙◌, subst}
use mathlib.Core.Bool.{Bool, true}
use mathlib.Core.List.{List, [], ◌∷◌}
use mathlib.Core.Logic.{inl, inr}
use Prim.Native.Nat.{ℕ}
use native.Mathlib.Omega.{arith}
use lib.ListN.{length}
use Rattle.names.specs.Inner.Names.{Names}
use Rattle.sheet.specs.Inner.Sheet.{row_at}
use Rattle.sheet.proofs.Laws.Sheet.{row-fields}
use Rattle.scope_state.specs.Inner.Agrees.{scope_of}
use Rattle.scope_walk.proofs.Laws.Walking.{Calls, low-name, calls, past_guard_list}
use Rattle.scope_vars.specs.Inner.Inputs.{InputWalk}
use Rattle.scope_vars.proofs.Laws.Inputs.{InputTurn, input_walk_none, input_walk_turn, input_still, input_at-var}
use Rattle.scope_walk.proofs.Laws.Arms.{plain_arm, acting_arm}
use Rattle.scope_walk.proofs.Laws.Numbers.{constants, collections, compr_kinds, wrappers, operators}
use Rattle.sheet.specs.declared.kinds.Kind.TheVariants as kind
use Rattle.scope_vars.proofs.input.+gather_input_vars.Goals.{After-row_at-w, Joined-k-ne0, Joined-k-ne0-2, Joined-k-ne0-3, Joined-from}
use Rattle.scope_vars.proofs.input.+gather_input_vars.Goals.{then-k-ne0, else-k-ne0, then-k-ne0-2, else-k-ne0-2, then-k-ne0-3, else-k-ne0-3, in-String, in-Var, in-Array, in-ArrayCompr, in-Call, in-UnaryExpr, in-RefBrack, in-BinExpr, in-Membership, in-Unknown}
use Rattle.scope_vars.proofs.input.+gather_input_vars.Goals as goal

pub returns-then-row-eq0 : goal.returns-then-row-eq0
returns-then-row-eq0 m c =
    let a = c.args in
    record {
      long = refl;
      done = λ l.
          let s = scope_of l a.unscoped.now a.inputs.now a.uses in
          subst (λ (n : ℕ). InputWalk a.tables.now a.outer.now n a.rest s s) (sym c.if-row-eq0.true) (input_walk_none _ _ c.requires.accepted a.rest s);
    }

-- The row that was read.
row_is : (m : ℕ) (c : After-row_at-w m)
    → c.row_at-w.result ≡ row_at c.args.tables.now c.args.row
row_is m c = c.row_at-w.ensures ∙ row-fields _ _

pub input_var-s-requires : goal.input_var-s-requires
input_var-s-requires m c =
    let pre = c.requires in
    record {
      tables-room = pre.accepted.room;
      outer-room = pre.outer-room;
      name-low = rw (row_is m (goal.at.input_var-s-requires m c).After-row_at-w) (low-name _ pre.accepted _ c.if-row-eq0.false pre.row_in);
      unscoped-words = pre.unscoped-words;
      inputs-words = pre.inputs-words;
    }

-- The match: what is done at the row, and its children.
turn : (m : ℕ) (c : Joined-from m)
    →
    let a = c.args in
    InputTurn a.tables.now a.outer.now c.row_at-w.result a.unscoped.now (a.inputs.now, a.uses) (c.match-from.inputs, c.match-from.s) c.match-from.k
turn m c =
    let g = c.args in
    let still = input_still g.tables.now g.outer.now c.row_at-w.result g.unscoped.now g.inputs.now g.uses c.from.result c.from.ensures in
    elim c.match-from.branch [
      | in-String w ↦ plain_arm still constants w.in-String.is refl (λ i. (w.inputs-is i, w.s-is i)) (cc)
      | in-Var w ↦
          acting_arm still (kind.Var ∷ []) w.in-Var.is refl (input_at-var _ _ _ _ _ _ w.in-Var.ensures _ _ w.input_var-s.ensures) (λ i. (w.inputs-is i, w.s-is i)) (cc)
      | in-Array w ↦ plain_arm still collections w.in-Array.is refl (λ i. (w.inputs-is i, w.s-is i)) (cc)
      | in-ArrayCompr w ↦ plain_arm still compr_kinds w.in-ArrayCompr.is refl (λ i. (w.inputs-is i, w.s-is i)) (grind arith)
      | in-Call w ↦ plain_arm still (kind.Call ∷ []) w.in-Call.is refl (λ i. (w.inputs-is i, w.s-is i)) (cc)
      | in-UnaryExpr w ↦ plain_arm still wrappers w.in-UnaryExpr.is refl (λ i. (w.inputs-is i, w.s-is i)) (cc)
      | in-RefBrack w ↦ plain_arm still (kind.RefBrack ∷ []) w.in-RefBrack.is refl (λ i. (w.inputs-is i, w.s-is i)) (cc)
      | in-BinExpr w ↦ plain_arm still operators w.in-BinExpr.is refl (λ i. (w.inputs-is i, w.s-is i)) (cc)
      | in-Membership w ↦ plain_arm still (kind.Membership ∷ []) w.in-Membership.is refl (λ i. (w.inputs-is i, w.s-is i)) (cc)
      | in-Unknown w ↦ plain_arm still (kind.Unknown ∷ []) w.in-Unknown.is refl (λ i. (w.inputs-is i, w.s-is i)) (cc)
    ]

ready : (m : ℕ) (c : Joined-from m)
    →
    Calls c.args.tables.now m c.args.rest c.row_at-w.result c.match-from.k
ready m c =
    calls _ c.requires.accepted _ c.if-row-eq0.false c.requires.row_in m c.decreases _ _ (c.row_at-w.ensures ∙ row-fields _ _) _ (turn m c).kids

pub gather_input_vars-s-requires : goal.gather_input_vars-s-requires
gather_input_vars-s-requires m c =
    let pre = c.requires in
    let p = goal.at.gather_input_vars-s-requires m c in
    let k = (ready m p.Joined-from).first in (
      k.0,
      record {
        accepted = pre.accepted;
        outer-room = pre.outer-room;
        row_in = k.1;
        unscoped-words = pre.unscoped-words;
        inputs-words = (turn m p.Joined-from).step.long ∙ pre.inputs-words;
      },
    )

-- A guarded walk over the row n, whatever the locals are.
abbrev Walked : List ℕ → List ℕ → List ℕ → ℕ → Bool → List ℕ → Bool → List ℕ → Type 0
Walked t o u n f i g j = (l : Names) → InputWalk t o n true (scope_of l u i f) (scope_of l u j g)

-- The three parts, each walked where there is one.
first_walk : (m : ℕ) (c : Joined-k-ne0 m)
    →
    let a = c.args in
    Walked a.tables.now a.outer.now a.unscoped.now c.match-from.k.first c.match-from.s c.match-from.inputs c.if-k-ne0.s c.if-k-ne0.inputs
    × (length c.if-k-ne0.inputs ≡ length c.match-from.inputs)
first_walk m c =
    let a = c.args in
    past_guard_list (Walked a.tables.now a.outer.now a.unscoped.now) (λ f i l. input_walk_none _ _ c.requires.accepted true _) _ _ _ _ _ (λ w. w) (λ w. w)
    (elim c.if-k-ne0.branch [
      | then-k-ne0 w ↦ inl (_, _, w.gather_input_vars-s.ensures.done, w.gather_input_vars-s.ensures.long, w.inputs-is, w.s-is)
      | else-k-ne0 w ↦ inr (w.if-k-ne0.false, w.inputs-is, w.s-is)
    ])

pub gather_input_vars-s-requires-then-k-ne0-2 : goal.gather_input_vars-s-requires-then-k-ne0-2
gather_input_vars-s-requires-then-k-ne0-2 m c =
    let pre = c.requires in
    let p = goal.at.gather_input_vars-s-requires-then-k-ne0-2 m c in
    let k = (ready m p.Joined-from).second in (
      k.0,
      record {
        accepted = pre.accepted;
        outer-room = pre.outer-room;
        row_in = k.1;
        unscoped-words = pre.unscoped-words;
        inputs-words = (first_walk m p.Joined-k-ne0).1 ∙ (turn m p.Joined-from).step.long ∙ pre.inputs-words;
      },
    )

second_walk : (m : ℕ) (c : Joined-k-ne0-2 m)
    →
    let a = c.args in
    Walked a.tables.now a.outer.now a.unscoped.now c.match-from.k.second c.if-k-ne0.s c.if-k-ne0.inputs c.if-k-ne0-2.s c.if-k-ne0-2.inputs
    × (length c.if-k-ne0-2.inputs ≡ length c.if-k-ne0.inputs)
second_walk m c =
    let a = c.args in
    past_guard_list (Walked a.tables.now a.outer.now a.unscoped.now) (λ f i l. input_walk_none _ _ c.requires.accepted true _) _ _ _ _ _ (λ w. w) (λ w. w)
    (elim c.if-k-ne0-2.branch [
      | then-k-ne0-2 w ↦ inl (_, _, w.gather_input_vars-s-then-k-ne0-2.ensures.done, w.gather_input_vars-s-then-k-ne0-2.ensures.long, w.inputs-is, w.s-is)
      | else-k-ne0-2 w ↦ inr (w.if-k-ne0-2.false, w.inputs-is, w.s-is)
    ])

pub gather_input_vars-s-requires-then-k-ne0-3 : goal.gather_input_vars-s-requires-then-k-ne0-3
gather_input_vars-s-requires-then-k-ne0-3 m c =
    let pre = c.requires in
    let p = goal.at.gather_input_vars-s-requires-then-k-ne0-3 m c in
    let k = (ready m p.Joined-from).third in (
      k.0,
      record {
        accepted = pre.accepted;
        outer-room = pre.outer-room;
        row_in = k.1;
        unscoped-words = pre.unscoped-words;
        inputs-words = (second_walk m p.Joined-k-ne0-2).1 ∙ (first_walk m p.Joined-k-ne0).1 ∙ (turn m p.Joined-from).step.long ∙ pre.inputs-words;
      },
    )

third_walk : (m : ℕ) (c : Joined-k-ne0-3 m)
    →
    let a = c.args in
    Walked a.tables.now a.outer.now a.unscoped.now c.match-from.k.third c.if-k-ne0-2.s c.if-k-ne0-2.inputs c.if-k-ne0-3.s c.if-k-ne0-3.inputs
    × (length c.if-k-ne0-3.inputs ≡ length c.if-k-ne0-2.inputs)
third_walk m c =
    let a = c.args in
    past_guard_list (Walked a.tables.now a.outer.now a.unscoped.now) (λ f i l. input_walk_none _ _ c.requires.accepted true _) _ _ _ _ _ (λ w. w) (λ w. w)
    (elim c.if-k-ne0-3.branch [
      | then-k-ne0-3 w ↦ inl (_, _, w.gather_input_vars-s-then-k-ne0-3.ensures.done, w.gather_input_vars-s-then-k-ne0-3.ensures.long, w.inputs-is, w.s-is)
      | else-k-ne0-3 w ↦ inr (w.if-k-ne0-3.false, w.inputs-is, w.s-is)
    ])

pub returns-then-next-eq0 : goal.returns-then-next-eq0
returns-then-next-eq0 m c =
    let a = c.args in
    let ok = c.requires.accepted in
    let p = goal.at.returns-then-next-eq0 m c in
    let t = turn m p.Joined-from in
    let x = first_walk m p.Joined-k-ne0 in
    let y = second_walk m p.Joined-k-ne0-2 in
    let z = third_walk m p.Joined-k-ne0-3 in
    record {
      long = z.1 ∙ y.1 ∙ x.1 ∙ t.step.long;
      done = λ l.
          let s = scope_of l a.unscoped.now c.if-k-ne0-3.inputs c.if-k-ne0-3.s in
          input_walk_turn _ _ ok _ c.if-row-eq0.false c.requires.row_in a.rest _ (row_is m p.After-row_at-w) _ t.kids _ c.next_of-next.ensures
          _ _ _ _ _ _ (t.step.done l) (x.0 l) (y.0 l) (z.0 l)
          (subst (λ (n : ℕ). InputWalk a.tables.now a.outer.now n true s s) (sym c.if-next-eq0.true) (input_walk_none _ _ ok true s));
    }

pub gather_input_vars-requires : goal.gather_input_vars-requires
gather_input_vars-requires m c =
    let pre = c.requires in
    let p = goal.at.gather_input_vars-requires m c in
    let k = (ready m p.Joined-from).next in (
      rw c.next_of-next.ensures k.0,
      record {
        accepted = pre.accepted;
        outer-room = pre.outer-room;
        row_in = rw c.next_of-next.ensures k.1;
        unscoped-words = pre.unscoped-words;
        inputs-words = (third_walk m p.Joined-k-ne0-3).1 ∙ (second_walk m p.Joined-k-ne0-2).1 ∙ (first_walk m p.Joined-k-ne0).1 ∙ (turn m p.Joined-from).step.long ∙ pre.inputs-words;
      },
    )

pub returns : goal.returns
returns m c =
    let p = goal.at.returns m c in
    let t = turn m p.Joined-from in
    let x = first_walk m p.Joined-k-ne0 in
    let y = second_walk m p.Joined-k-ne0-2 in
    let z = third_walk m p.Joined-k-ne0-3 in
    record {
      long = c.gather_input_vars.ensures.long ∙ z.1 ∙ y.1 ∙ x.1 ∙ t.step.long;
      done = λ l.
          input_walk_turn _ _ c.requires.accepted _ c.if-row-eq0.false c.requires.row_in c.args.rest _ (row_is m p.After-row_at-w) _ t.kids _ c.next_of-next.ensures
          _ _ _ _ _ _ (t.step.done l) (x.0 l) (y.0 l) (z.0 l) (c.gather_input_vars.ensures.done l);
    }
