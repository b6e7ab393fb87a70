-- The walk over a pattern, with the rest of its chain or without.
use Rattle.std.specs.Prelude.{Bool, cond, List, [], ◌∷◌, ℕ}
use Rattle.names.specs.Inner.Names.{Names}
use Rattle.sheet.specs.declared.Row.{Row}
use Rattle.sheet.specs.Kinds.{is_var}
use Rattle.scope.specs.Scopes as spec
use Rattle.scope.specs.Scopes.{owns}
use Rattle.definition.specs.Uses.{assigned_vars}
use Rattle.scope_state.specs.declared.Scope.{Scope}
use Rattle.scope_walk.specs.Inner.Exprs.{expr_by}
use Rattle.scope_state.specs.Inner.Agrees.{Sets}
use Rattle.definition_walk.specs.Inner.Adds.{Adds}

-- The name that a leaf assigns.
abbrev pub leaf_at : spec.Scope → Row → List ℕ
leaf_at s w = cond (is_var w) (cond (owns s w.name) (w.name ∷ []) []) []

-- ---- a row

module _ (k : Scope) where
  abbrev pub LeafStep : Row → Names → Names → Type 0
  LeafStep w a b = (s : spec.Scope) → Sets k s → Adds a (leaf_at s w) b

-- ---- the walk

module _ (t : List ℕ) where
  module _ (k : Scope) where
    -- The names come to the set, for every scope that the code's stands for.
    abbrev pub AssignedWalk : ℕ → Bool → Names → Names → Type 0
    AssignedWalk row rest a b = (s : spec.Scope) → Sets k s → Adds a (assigned_vars s (expr_by t rest row)) b
