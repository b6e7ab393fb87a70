-- Names that come to the inputs of a scope.
use Rattle.std.specs.Prelude.{Bool, ℕ}
use mathlib.Core.List.{List, foldl}
use Rattle.names.specs.Inner.Names.{Names}
use Rattle.scope.specs.Scopes as spec
use Rattle.scope.specs.Scopes.{add_input, use_input}
use Rattle.scope_state.specs.declared.Scope.{Scope}
use Rattle.scope_state.specs.Inner.Agrees.{Sets}
use Rattle.definition_walk.specs.Inner.Own.{Holds}

-- What the code does.
abbrev pub Propagated : Scope → Bool → Names → Scope → Type 0
Propagated k uses names r = (s : spec.Scope) → Sets k s → (l : List ℕ) → Holds names l → Sets r (foldl add_input (use_input uses s) l)
