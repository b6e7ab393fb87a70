-- The statement is placed if its definitions resolve (`goes`), and becomes idle if not (`stays`). An unplaced one has room in the order.
use mathlib.Core.Path.{refl}
use native.Mathlib.Omega.{arith}
use Rattle.order_place.proofs.Laws.Trying.{room-left, stays, goes}
use Rattle.order_place.proofs.State.attempt.Goals as goal

pub bounds-self-self : goal.bounds-self-self
bounds-self-self c =
    let pre = c.requires in
    let few = c.args.list.now.sound.few in
    omega (arith, room-left few pre.holds_placed pre.waiting, few)

pub returns-then-not-try_statement : goal.returns-then-not-try_statement
returns-then-not-try_statement c =
    let pre = c.requires in
    let fails = c.if-not-try_statement.true in
    let says = c.try_statement.ensures.1 in
    stays c.args.list.now.sound.few pre.holds_placed pre.waiting says.says fails _ refl (says.stays fails) refl refl c.insert-self.ensures

pub returns : goal.returns
returns c =
    let pre = c.requires in
    let passes = c.if-not-try_statement.false in
    let says = c.try_statement.ensures in
    goes c.args.list.now.sound.few pre.holds_placed pre.waiting says.1.says passes _ refl refl refl c.insert-self-2.ensures says.0 (says.1.knows passes)
