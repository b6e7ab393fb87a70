-- The level of q is that of the query that the loop came to, some steps up.
use mathlib.Core.Path.{ap, ◌∙◌}
use Prim.Native.Nat.{ℕ, ◌+◌, ◌-◌}
use Rattle.sheet_levels.specs.Inner.Levels.{level_by}
use Rattle.sheet_levels.proofs.Laws.Levels.{level_after}
use Rattle.sheet_levels.proofs.Laws.Laws.{walk-found, walk_on, walk-done}
use Rattle.sheet_levels.proofs.level.Goals as goal

pub returns-then-at-eq1 : goal.returns-then-at-eq1
returns-then-at-eq1 c =
    let a = c.args in let l = c.loop-steps in walk-found a.last a.work.now a.n l.steps l.at c.loop-steps-test.true c.if-at-eq1.true ∙ l.invariant

pub loop-steps-preserved : goal.loop-steps-preserved
loop-steps-preserved c =
    let a = c.args in let l = c.loop-steps in ap (λ (p : ℕ). level_after (l.steps + 1) (level_by a.last a.work.now (a.n - (l.steps + 1)) p)) c.parent-at.ensures ∙ walk_on a.last a.work.now a.n l.steps l.at c.loop-steps-test.true c.if-at-eq1.false ∙ l.invariant

pub returns : goal.returns
returns c =
    let a = c.args in let l = c.loop-steps in walk-done a.last a.work.now a.n l.steps l.at c.loop-steps-test.false ∙ l.invariant
