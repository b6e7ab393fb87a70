-- A name with nothing to try: its turn would change nothing.
use mathlib.Core.Path.{refl}
use Rattle.order_place.proofs.Laws.Turning.{turning_first, turning_done}
use Rattle.order_place.proofs.Laws.Rounding.{followed-none}
use Rattle.order_place.proofs.State.take_followed.Goals as goal

pub returns-in_default : goal.returns-in_default
returns-in_default c =
    let list = c.args.list.now in
    let h = c.requires.holds_placed in
    followed-none c.args.name h (turning_done list.sound list.masked c.requires.named (turning_first c.args.name h) c.in_default.ensures) refl
