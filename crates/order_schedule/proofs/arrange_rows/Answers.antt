-- All are placed, or not all are (Leaves).
use mathlib.Core.Path.{refl, sym, ap₂, ◌∙◌, subst}
use mathlib.Core.Bool.{true, false}
use mathlib.Core.List.{List, ◌++◌}
use Prim.Native.Nat.{ℕ}
use native.Mathlib.Omega.{arith}
use borrow.Author.Rules.{rules}
use lib.ListN.{length}
use Rattle.base.specs.Lists.{range}
use Rattle.names_width.specs.Widths.{limits}
use Rattle.order_rows.proofs.Laws.Zeros.{zero-at}
use Rattle.order_place.proofs.Laws.StateLaws.{begins}
use Rattle.order_schedule.specs.Inner.Call.{Arranged}
use Rattle.order_schedule.proofs.Laws.Leaves.{drop-filled, placed-low, all_placed, not-placed}
use Rattle.order_schedule.proofs.arrange_rows.Goals as goal

pub place_rows-requires-clause-starts : goal.place_rows-requires-clause-starts
place_rows-requires-clause-starts c =
    let none = c.start-state.ensures in
    begins _ _ c.start-state.result none.0 (search rules) none.1 none.2 (search rules, none.3)

pub mark-requires-clause-low : goal.mark-requires-clause-low
mark-requires-clause-low c = λ i m.
    omega (arith, placed-low (limits c.args.rows.width) _ _ 0 0 c.place_rows.ensures i m, c.requires.accepted_list.marked, c.fill.ensures.len)

pub mark-requires-clause-zeros : goal.mark-requires-clause-zeros
mark-requires-clause-zeros c = λ i. rw (c.fill.ensures.after (λ y e. e)) (zero-at _ i)

pub returns-then-state-n : goal.returns-then-state-n
returns-then-state-n c =
    let a = c.args in
    let rest = drop-filled a.order.now c.fill-2.new.self a.n c.requires.accepted_list.ordered (c.fill-2.ensures.after (λ y e. e)) in
    subst (λ (l : List ℕ). Arranged (limits a.rows.width) a.rows.words.now a.n (length a.order.now) (length a.reached.now) true l c.mark.new.reached)
    (sym (ap₂ (λ (x y : List ℕ). x ++ y) c.copy_from_slice.ensures.after rest))
    (all_placed (limits a.rows.width) _ _ _ _ c.place_rows.ensures c.mark.ensures c.fill.ensures.len c.requires.accepted_list.marked c.if-state-n.true)

pub returns : goal.returns
returns c =
    let a = c.args in
    let rest = drop-filled a.order.now c.fill-2.new.self a.n c.requires.accepted_list.ordered (c.fill-2.ensures.after (λ y e. e)) in
    subst (λ (l : List ℕ). Arranged (limits a.rows.width) a.rows.words.now a.n (length a.order.now) (length a.reached.now) false l c.mark.new.reached)
    (sym (c.count_up.ensures ∙ ap₂ (λ (x y : List ℕ). x ++ y) (refl {a = range 0 a.n}) rest))
    (not-placed (limits a.rows.width) _ _ _ _ c.place_rows.ensures c.mark.ensures c.fill.ensures.len c.requires.accepted_list.marked c.if-state-n.false)
