-- The own names of a scope among the inputs of another, as words and as a list.
use Rattle.std.specs.Prelude.{◌≡◌, ◌&&◌, ℕ}
use Rattle.base.specs.Sets.{member}
use Rattle.names.specs.Inner.Names.{Names}
use Rattle.scope.specs.Scopes as spec
use Rattle.scope.specs.Scopes.{owns}
use Rattle.scope_state.specs.declared.Scope.{Scope}
use Rattle.scope_state.specs.Inner.Agrees.{Sets}

-- For every scope that the code's stands for.
abbrev pub OwnInputs : Scope → Names → Names → Type 0
OwnInputs k inputs r = (s : spec.Scope) → Sets k s → (x : ℕ) → member r.words x ≡ (member inputs.words x && owns s x)
