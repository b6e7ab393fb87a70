-- The walk that gathers the names used and nothing else.
use Rattle.std.specs.Prelude.{Bool, List, ℕ}
use Rattle.names.specs.Inner.Names.{Names}
use Rattle.scope.specs.Scopes as spec
use Rattle.definition.specs.Uses.{used_vars}
use Rattle.scope_state.specs.declared.Scope.{Scope}
use Rattle.scope_walk.specs.Inner.Sheets.{sheet_at}
use Rattle.scope_state.specs.Inner.Agrees.{Sets}
use Rattle.scope_walk.specs.Inner.Exprs.{expr_by}
use Rattle.definition_walk.specs.Inner.Own.{Holds}
use Rattle.definition_walk.specs.Inner.Adds.{Adds}

module _ (t : List ℕ) (k : Scope) (extras : Names) where
  abbrev pub NamesWalk : ℕ → Bool → Names → Names → Type 0
  NamesWalk row rest a b =
      (s : spec.Scope) → Sets k s → (l : List ℕ) → Holds extras l → Adds a (used_vars (sheet_at t) s l (expr_by t rest row)) b
