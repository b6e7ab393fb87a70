-- One built-in after the other, up to the first that has the path.
use mathlib.Core.Path.{◌∙◌}
use native.Mathlib.Omega.{arith}
use Rattle.scope_paths.proofs.Laws.Builtins.{arity_past, arity_here, arity_later}
use Rattle.scope_paths.proofs.builtins.arity_from.Goals as goal

pub returns-then-has_path : goal.returns-then-has_path
returns-then-has_path c =
    arity_here _ _ _ (omega arith) c.builtin_at-b.result c.builtin_at-b.ensures _ c.has_path.ensures c.if-has_path.true ∙ c.loop-at.invariant.1

pub loop-at-preserved : goal.loop-at-preserved
loop-at-preserved c = (
  omega arith,
  arity_later _ _ _ (omega arith) c.builtin_at-b.result c.builtin_at-b.ensures _ c.has_path.ensures c.if-has_path.false ∙ c.loop-at.invariant.1,
)

pub returns : goal.returns
returns c = arity_past _ _ _ (omega arith) ∙ c.loop-at.invariant.1
