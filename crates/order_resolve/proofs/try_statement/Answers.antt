use mathlib.Core.Path.{refl}
use native.Mathlib.Omega.{arith}
use Rattle.order_resolve.proofs.Laws.Trying.{trying_first, trying_next, trying_less, trying_resolved, trying_fails}
use Rattle.order_resolve.proofs.try_statement.Goals as goal

pub loop-seen-init : goal.loop-seen-init
loop-seen-init c = (refl, c.requires.known_len, trying_first _ _ _ _)

pub returns-in-Resolved : goal.returns-in-Resolved
returns-in-Resolved c = (c.pass.ensures.0, trying_resolved _ _ _ _ c.loop-seen.invariant.2 c.pass.ensures.1 c.in-Resolved.is)

pub loop-seen-smaller : goal.loop-seen-smaller
loop-seen-smaller c = trying_less _ _ _ _ c.loop-seen.invariant.2 c.pass.ensures.1 (omega (arith, c.pass.ensures.0)) c.in-Grew.is

pub loop-seen-preserved : goal.loop-seen-preserved
loop-seen-preserved c = (c.loop-seen.invariant.0, c.loop-seen.invariant.1, trying_next _ _ _ _ c.loop-seen.invariant.2 c.pass.ensures.1)

pub returns-in-Stuck : goal.returns-in-Stuck
returns-in-Stuck c = rw c.loop-seen.invariant.0 (rw c.loop-seen.invariant.0 at c.loop-seen.invariant.1, trying_fails _ _ _ _ c.loop-seen.invariant.2 c.pass.ensures.1 c.in-Stuck.is)
