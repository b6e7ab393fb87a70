use mathlib.Core.Path.{◌≡◌}
use borrow.Author.Rules.{rules}
use Rattle.order_place.proofs.Laws.Rounding.{rounding_first, rounding_next, rounding_done}
use Rattle.order_place.proofs.State.take_round.Goals as goal

pub loop-name-init : goal.loop-name-init
loop-name-init c =
    let list = c.args.list.now in
    let start : c.into_iter-name-iterator.result.from ≡ 0 = search rules in
    (search rules, rw start (rounding_first list.masked (search rules) c.requires.holds_placed))

pub loop-name-preserved : goal.loop-name-preserved
loop-name-preserved c =
    let inv = c.loop-name.invariant in
    let steps = rw inv.0 at c.in-Some.ensures.steps in
    (steps.0, rw steps.1.1 (rounding_next inv.1 (search rules) steps.1.0 c.take_followed.ensures))

pub returns : goal.returns
returns c =
    let inv = c.loop-name.invariant in
    let steps = rw inv.0 at c.in-None.ensures.steps in
    rounding_done inv.1 (search rules) steps.1
