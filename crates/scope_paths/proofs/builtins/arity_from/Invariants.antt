-- The loop's invariant: none so far has the path, so the first that has it is among the rest.
use mathlib.Core.Path.{◌≡◌}
use Prim.Native.Nat.{◌≤◌}
use Rattle.scope_paths.specs.Inner.Builtins.{arity_from}
use Rattle.scope_paths.proofs.builtins.arity_from.Given as goal

abbrev pub invariant-loop-at : goal.invariant-loop-at
invariant-loop-at l = (1 ≤ l.at) × (arity_from l.tables l.at l.path ≡ arity_from l.tables l.row l.path)
