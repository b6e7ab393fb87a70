-- Laws of `OnceWay`.
use mathlib.Core.List.{List}
use Prim.Native.Nat.{ℕ}
use Rattle.scope.specs.Trees.{Tree}
use Rattle.scope.specs.Scopes.{elements}
use Rattle.definition.specs.States.{State}
use Rattle.definition_once.specs.Inner.OnceWay.{compr_scope}

-- Its inputs, ascending.
abbrev pub compr_inputs : State → Tree → List ℕ
compr_inputs s e = elements (compr_scope s e).inputs
