-- The walk goes on to later rows only, and what the calls on the way do is a row's turn (`loop_walk_turn`).
use mathlib.Core.Path.{◌≡◌, refl, sym, ◌∙◌, subst}
use mathlib.Core.Bool.{true}
use mathlib.Core.List.{List, [], ◌∷◌}
use mathlib.Core.Logic.{inl, inr}
use Prim.Native.Nat.{ℕ}
use native.Mathlib.Omega.{arith}
use lib.ListN.{length}
use Rattle.sheet.specs.Inner.Sheet.{row_at}
use Rattle.sheet.proofs.Laws.Sheet.{row-fields}
use Rattle.scope_walk.specs.Inner.Sheets.{Accepted}
use Rattle.scope_walk.proofs.Laws.Walking.{Calls, second-low, calls, past_guard}
use Rattle.scope_vars.specs.Inner.Loops.{LoopWalk, LoopWalkIn, scope_of_words}
use Rattle.scope_vars.proofs.Laws.Loops.{LoopState, LoopTurn, loop_walk_none, loop_walk_turn, loop_still, loop_at_var, loop_at_brack}
use Rattle.scope_walk.proofs.Laws.Arms.{plain_arm, acting_arm}
use Rattle.scope_walk.proofs.Laws.Numbers.{constants, collections, compr_kinds, wrappers, operators}
use Rattle.sheet.specs.declared.kinds.Kind.TheVariants as kind
use Rattle.scope_vars.proofs.loops.+gather_loop_vars.Goals.{After-row_at-w, Joined-k-ne0, Joined-k-ne0-2, Joined-k-ne0-3, Joined-from}
use Rattle.scope_vars.proofs.loops.+gather_loop_vars.Goals.{then-k-ne0, else-k-ne0, then-k-ne0-2, else-k-ne0-2, then-k-ne0-3, else-k-ne0-3, in-String, in-Var, in-Array, in-ArrayCompr, in-Call, in-UnaryExpr, in-RefBrack, in-BinExpr, in-Membership, in-Unknown}
use Rattle.scope_vars.proofs.loops.+gather_loop_vars.Goals as goal

pub returns-then-row-eq0 : goal.returns-then-row-eq0
returns-then-row-eq0 m c =
    let a = c.args in
    let s = scope_of_words a.locals.now a.unscoped.now a.inputs.now a.uses in
    record {
      unscoped-long = refl;
      inputs_long = refl;
      done = subst (λ (n : ℕ). LoopWalk a.tables.now a.outer.now n a.rest s a.spans.now s a.spans.now)
          (sym c.if-row-eq0.true) (loop_walk_none _ _ c.requires.accepted a.rest s a.spans.now);
    }

-- The row that was read.
row_is : (m : ℕ) (c : After-row_at-w m)
    → c.row_at-w.result ≡ row_at c.args.tables.now c.args.row
row_is m c = c.row_at-w.ensures ∙ row-fields _ _

pub bind_index-s-requires : goal.bind_index-s-requires
bind_index-s-requires m c =
    let pre = c.requires in
    record {
      accepted = pre.accepted;
      outer-room = pre.outer-room;
      row_in = second-low _ pre.accepted _ c.if-row-eq0.false pre.row_in _ (row_is m (goal.at.bind_index-s-requires m c).After-row_at-w);
      unscoped-words = pre.unscoped-words;
      inputs-words = pre.inputs-words;
      spans-room = pre.spans-room;
    }

-- The match: what is done at the row, and its children.
turn : (m : ℕ) (c : Joined-from m)
    →
    let a = c.args in
    LoopTurn a.tables.now a.outer.now a.locals.now c.row_at-w.result (a.uses, a.unscoped.now, a.inputs.now, a.spans.now)
    (c.match-from.s, c.match-from.unscoped, c.match-from.inputs, c.match-from.spans) c.match-from.k
turn m c =
    let w = c.row_at-w.result in
    let a = c.args in
    let t = a.tables.now in
    let o = a.outer.now in
    let l = a.locals.now in
    let s : LoopState = (a.uses, a.unscoped.now, a.inputs.now, a.spans.now) in
    let still = loop_still t o l w s c.from.result c.from.ensures in
    elim c.match-from.branch [
      | in-String x ↦ plain_arm still constants x.in-String.is refl (λ i. (x.s-is i, x.unscoped-is i, x.inputs-is i, x.spans-is i)) (cc)
      | in-Var x ↦
          acting_arm still (kind.Var ∷ []) x.in-Var.is refl (loop_at_var t o l w s x.in-Var.ensures _ x.flag_input-s.ensures) (λ i. (x.s-is i, x.unscoped-is i, x.inputs-is i, x.spans-is i)) (cc)
      | in-Array x ↦ plain_arm still collections x.in-Array.is refl (λ i. (x.s-is i, x.unscoped-is i, x.inputs-is i, x.spans-is i)) (cc)
      | in-ArrayCompr x ↦ plain_arm still compr_kinds x.in-ArrayCompr.is refl (λ i. (x.s-is i, x.unscoped-is i, x.inputs-is i, x.spans-is i)) (cc)
      | in-Call x ↦ plain_arm still (kind.Call ∷ []) x.in-Call.is refl (λ i. (x.s-is i, x.unscoped-is i, x.inputs-is i, x.spans-is i)) (cc)
      | in-UnaryExpr x ↦ plain_arm still wrappers x.in-UnaryExpr.is refl (λ i. (x.s-is i, x.unscoped-is i, x.inputs-is i, x.spans-is i)) (cc)
      | in-RefBrack x ↦
          acting_arm still (kind.RefBrack ∷ []) x.in-RefBrack.is refl (loop_at_brack t o l w s x.in-RefBrack.ensures (_, _, _, _) x.bind_index-s.ensures x.bind_index-s.auto.spans) (λ i. (x.s-is i, x.unscoped-is i, x.inputs-is i, x.spans-is i)) (cc)
      | in-BinExpr x ↦ plain_arm still operators x.in-BinExpr.is refl (λ i. (x.s-is i, x.unscoped-is i, x.inputs-is i, x.spans-is i)) (grind arith)
      | in-Membership x ↦ plain_arm still (kind.Membership ∷ []) x.in-Membership.is refl (λ i. (x.s-is i, x.unscoped-is i, x.inputs-is i, x.spans-is i)) (cc)
      | in-Unknown x ↦ plain_arm still (kind.Unknown ∷ []) x.in-Unknown.is refl (λ i. (x.s-is i, x.unscoped-is i, x.inputs-is i, x.spans-is i)) (cc)
    ]

ready : (m : ℕ) (c : Joined-from m)
    →
    Calls c.args.tables.now m c.args.rest c.row_at-w.result c.match-from.k
ready m c =
    calls _ c.requires.accepted _ c.if-row-eq0.false c.requires.row_in m c.decreases _ _ (c.row_at-w.ensures ∙ row-fields _ _) _ (turn m c).kids

-- A walk over the row n, from the flag, the unscoped names, the inputs and the spans on; lists stay as long as they are.
abbrev Walked : List ℕ → List ℕ → List ℕ → ℕ → LoopState → LoopState → Type 0
Walked t outer o n a b = LoopWalkIn t outer n true o a.1 a.2 a.0 a.3 b.1 b.2 b.0 b.3 × (length b.3 ≡ length a.3)

walked_none : (t outer o : List ℕ) → Accepted t → (a : LoopState) → Walked t outer o 0 a a
walked_none t outer o ok a = (record { unscoped-long = refl; inputs_long = refl; done = loop_walk_none t outer ok true _ _ }, refl)

-- Sets have their eight words still, and the spans are as many as before.
abbrev Long : List ℕ → List ℕ → List ℕ → List ℕ → Type 0
Long v j l before = (length v ≡ 8) × (length j ≡ 8) × (length l ≡ length before)

still_long : (t outer o : List ℕ) (n : ℕ) (a b : LoopState) (l : List ℕ) → Walked t outer o n a b → Long a.1 a.2 a.3 l → Long b.1 b.2 b.3 l
still_long t outer o n a b l w k = (w.0.unscoped-long ∙ k.0, w.0.inputs_long ∙ k.1, w.1 ∙ k.2)

turn_long : (m : ℕ) (c : Joined-from m) → Long c.match-from.unscoped c.match-from.inputs c.match-from.spans c.args.spans.now
turn_long m c =
    let step = (turn m c).step in (step.0.unscoped-long ∙ c.requires.unscoped-words, step.0.inputs_long ∙ c.requires.inputs-words, step.1)

pub gather_loop_vars-s-requires : goal.gather_loop_vars-s-requires
gather_loop_vars-s-requires m c =
    let pre = c.requires in
    let p = goal.at.gather_loop_vars-s-requires m c in
    let k = (ready m p.Joined-from).first in
    let l = turn_long m p.Joined-from in (
      k.0,
      record {
        accepted = pre.accepted;
        outer-room = pre.outer-room;
        row_in = k.1;
        unscoped-words = l.0;
        inputs-words = l.1;
        spans-room = omega (arith, pre.spans-room, l.2);
      },
    )

-- The three parts, each walked where there is one.
first_walk : (m : ℕ) (c : Joined-k-ne0 m)
    →
    let a = c.args in
    Walked a.tables.now a.outer.now a.locals.now c.match-from.k.first (c.match-from.s, c.match-from.unscoped, c.match-from.inputs, c.match-from.spans) (c.if-k-ne0.s, c.if-k-ne0.unscoped, c.if-k-ne0.inputs, c.if-k-ne0.spans)
first_walk m c =
    let a = c.args in
    past_guard (Walked a.tables.now a.outer.now a.locals.now) (walked_none _ _ _ c.requires.accepted) _ _ _ (λ w. w) (λ w. w)
    (elim c.if-k-ne0.branch [
      | then-k-ne0 w ↦ inl (_, (w.gather_loop_vars-s.ensures, w.gather_loop_vars-s.auto.spans), λ i. (w.s-is i, w.unscoped-is i, w.inputs-is i, w.spans-is i))
      | else-k-ne0 w ↦ inr (w.if-k-ne0.false, λ i. (w.s-is i, w.unscoped-is i, w.inputs-is i, w.spans-is i))
    ])

pub gather_loop_vars-s-requires-then-k-ne0-2 : goal.gather_loop_vars-s-requires-then-k-ne0-2
gather_loop_vars-s-requires-then-k-ne0-2 m c =
    let pre = c.requires in
    let p = goal.at.gather_loop_vars-s-requires-then-k-ne0-2 m c in
    let k = (ready m p.Joined-from).second in
    let l = still_long _ _ _ _ _ _ _ (first_walk m p.Joined-k-ne0) (turn_long m p.Joined-from) in (
      k.0,
      record {
        accepted = pre.accepted;
        outer-room = pre.outer-room;
        row_in = k.1;
        unscoped-words = l.0;
        inputs-words = l.1;
        spans-room = omega (arith, pre.spans-room, l.2);
      },
    )

second_walk : (m : ℕ) (c : Joined-k-ne0-2 m)
    →
    let a = c.args in
    Walked a.tables.now a.outer.now a.locals.now c.match-from.k.second (c.if-k-ne0.s, c.if-k-ne0.unscoped, c.if-k-ne0.inputs, c.if-k-ne0.spans)
    (c.if-k-ne0-2.s, c.if-k-ne0-2.unscoped, c.if-k-ne0-2.inputs, c.if-k-ne0-2.spans)
second_walk m c =
    let a = c.args in
    past_guard (Walked a.tables.now a.outer.now a.locals.now) (walked_none _ _ _ c.requires.accepted) _ _ _ (λ w. w) (λ w. w)
    (elim c.if-k-ne0-2.branch [
      | then-k-ne0-2 w ↦ inl (_, (w.gather_loop_vars-s-then-k-ne0-2.ensures, w.gather_loop_vars-s-then-k-ne0-2.auto.spans), λ i. (w.s-is i, w.unscoped-is i, w.inputs-is i, w.spans-is i))
      | else-k-ne0-2 w ↦ inr (w.if-k-ne0-2.false, λ i. (w.s-is i, w.unscoped-is i, w.inputs-is i, w.spans-is i))
    ])

pub gather_loop_vars-s-requires-then-k-ne0-3 : goal.gather_loop_vars-s-requires-then-k-ne0-3
gather_loop_vars-s-requires-then-k-ne0-3 m c =
    let pre = c.requires in
    let p = goal.at.gather_loop_vars-s-requires-then-k-ne0-3 m c in
    let k = (ready m p.Joined-from).third in
    let l = still_long _ _ _ _ _ _ _ (second_walk m p.Joined-k-ne0-2) (still_long _ _ _ _ _ _ _ (first_walk m p.Joined-k-ne0) (turn_long m p.Joined-from)) in (
      k.0,
      record {
        accepted = pre.accepted;
        outer-room = pre.outer-room;
        row_in = k.1;
        unscoped-words = l.0;
        inputs-words = l.1;
        spans-room = omega (arith, pre.spans-room, l.2);
      },
    )

third_walk : (m : ℕ) (c : Joined-k-ne0-3 m)
    →
    let a = c.args in
    Walked a.tables.now a.outer.now a.locals.now c.match-from.k.third (c.if-k-ne0-2.s, c.if-k-ne0-2.unscoped, c.if-k-ne0-2.inputs, c.if-k-ne0-2.spans)
    (c.if-k-ne0-3.s, c.if-k-ne0-3.unscoped, c.if-k-ne0-3.inputs, c.if-k-ne0-3.spans)
third_walk m c =
    let a = c.args in
    past_guard (Walked a.tables.now a.outer.now a.locals.now) (walked_none _ _ _ c.requires.accepted) _ _ _ (λ w. w) (λ w. w)
    (elim c.if-k-ne0-3.branch [
      | then-k-ne0-3 w ↦ inl (_, (w.gather_loop_vars-s-then-k-ne0-3.ensures, w.gather_loop_vars-s-then-k-ne0-3.auto.spans), λ i. (w.s-is i, w.unscoped-is i, w.inputs-is i, w.spans-is i))
      | else-k-ne0-3 w ↦ inr (w.if-k-ne0-3.false, λ i. (w.s-is i, w.unscoped-is i, w.inputs-is i, w.spans-is i))
    ])

pub returns-then-next-eq0 : goal.returns-then-next-eq0
returns-then-next-eq0 m c =
    let a = c.args in
    let ok = c.requires.accepted in
    let p = goal.at.returns-then-next-eq0 m c in
    let t = turn m p.Joined-from in
    let x = first_walk m p.Joined-k-ne0 in
    let y = second_walk m p.Joined-k-ne0-2 in
    let z = third_walk m p.Joined-k-ne0-3 in
    let j = c.if-k-ne0-3 in
    let s = scope_of_words a.locals.now j.unscoped j.inputs j.s in
    record {
      unscoped-long = z.0.unscoped-long ∙ y.0.unscoped-long ∙ x.0.unscoped-long ∙ t.step.0.unscoped-long;
      inputs_long = z.0.inputs_long ∙ y.0.inputs_long ∙ x.0.inputs_long ∙ t.step.0.inputs_long;
      done =
          loop_walk_turn _ _ ok _ c.if-row-eq0.false c.requires.row_in a.rest _ (row_is m p.After-row_at-w) _ t.kids _ c.next_of-next.ensures
          _ _ _ _ _ _ _ _ _ _ _ _ t.step.0.done x.0.done y.0.done z.0.done
          (subst (λ (n : ℕ). LoopWalk a.tables.now a.outer.now n true s j.spans s j.spans) (sym c.if-next-eq0.true) (loop_walk_none _ _ ok true s j.spans));
    }

pub gather_loop_vars-requires : goal.gather_loop_vars-requires
gather_loop_vars-requires m c =
    let pre = c.requires in
    let p = goal.at.gather_loop_vars-requires m c in
    let k = (ready m p.Joined-from).next in
    let l = still_long _ _ _ _ _ _ _ (third_walk m p.Joined-k-ne0-3) (still_long _ _ _ _ _ _ _ (second_walk m p.Joined-k-ne0-2) (still_long _ _ _ _ _ _ _ (first_walk m p.Joined-k-ne0) (turn_long m p.Joined-from))) in (
      rw c.next_of-next.ensures k.0,
      record {
        accepted = pre.accepted;
        outer-room = pre.outer-room;
        row_in = rw c.next_of-next.ensures k.1;
        unscoped-words = l.0;
        inputs-words = l.1;
        spans-room = omega (arith, pre.spans-room, l.2);
      },
    )

pub returns : goal.returns
returns m c =
    let last = c.gather_loop_vars.ensures in
    let p = goal.at.returns m c in
    let t = turn m p.Joined-from in
    let x = first_walk m p.Joined-k-ne0 in
    let y = second_walk m p.Joined-k-ne0-2 in
    let z = third_walk m p.Joined-k-ne0-3 in
    record {
      unscoped-long = last.unscoped-long ∙ z.0.unscoped-long ∙ y.0.unscoped-long ∙ x.0.unscoped-long ∙ t.step.0.unscoped-long;
      inputs_long = last.inputs_long ∙ z.0.inputs_long ∙ y.0.inputs_long ∙ x.0.inputs_long ∙ t.step.0.inputs_long;
      done =
          loop_walk_turn _ _ c.requires.accepted _ c.if-row-eq0.false c.requires.row_in c.args.rest _ (row_is m p.After-row_at-w) _ t.kids _ c.next_of-next.ensures
          _ _ _ _ _ _ _ _ _ _ _ _ t.step.0.done x.0.done y.0.done z.0.done last.done;
    }
