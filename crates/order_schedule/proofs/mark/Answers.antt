use mathlib.Core.Path.{refl}
use native.Mathlib.Omega.{arith}
use lib.Seq.{take_all}
use Rattle.order_schedule.proofs.Laws.Marks.{low-at, marked-more}
use Rattle.order_schedule.proofs.mark.Goals as goal

pub loop-at-init : goal.loop-at-init
loop-at-init c = record { long = refl; marks = c.requires.zeros }

pub bounds-reached-placed : goal.bounds-reached-placed
bounds-reached-placed c = omega (arith, low-at _ _ c.requires.low _ c.loop-at-test.true, c.loop-at.invariant.long)

pub loop-at-preserved : goal.loop-at-preserved
loop-at-preserved c = marked-more _ _ _ _ c.loop-at-test.true (low-at _ _ c.requires.low _ c.loop-at-test.true) c.loop-at.invariant

pub returns : goal.returns
returns c = rw (take_all c.loop-at.at c.args.placed.now c.loop-at-test.false) at c.loop-at.invariant
