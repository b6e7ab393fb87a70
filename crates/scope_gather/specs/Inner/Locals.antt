-- The variables of a `some`, one after the other.
use Rattle.std.specs.Prelude.{cond, ℕ}
use mathlib.Core.List.{List, foldl}
use Rattle.sheet.specs.declared.Row.{Row}
use Rattle.sheet.specs.Kinds.{is_var}
use Rattle.scope.specs.Traverse.{vars}
use Rattle.scope.specs.Scopes as spec
use Rattle.scope.specs.Scopes.{add_local}
use Rattle.scope_state.specs.declared.Scope.{Scope}
use Rattle.scope_state.specs.Inner.Spans.{Agrees}
use Rattle.scope_state.specs.Inner.Chains.{chain_at}

abbrev pub LocalStep : Row → Scope → List ℕ → Scope → List ℕ → Type 0
LocalStep w k l r m = (s : spec.Scope) → Agrees k l s → Agrees r m (cond (is_var w) (add_local s w) s)

module _ (t : List ℕ) where
  -- The variables of the chain from a row on.
  abbrev pub LocalsEach : ℕ → Scope → List ℕ → Scope → List ℕ → Type 0
  LocalsEach row k l r m = (s : spec.Scope) → Agrees k l s → Agrees r m (foldl add_local s (vars (chain_at t row)))
