-- The walk that gathers the names used.
use Rattle.std.specs.Prelude.{cond, List, [], ◌∷◌, ℕ}
use Rattle.names.specs.Inner.Names.{Names}
use Rattle.sheet.specs.declared.Row.{Row}
use Rattle.sheet.specs.Sheet.{Sheet}
use Rattle.sheet.specs.Kinds.{is_var, is_ref_brack}
use Rattle.scope.specs.Trees.{tree_at}
use Rattle.scope.specs.Scopes as spec
use Rattle.definition.specs.Uses.{assigned_vars, is_use}
use Rattle.scope_state.specs.declared.Scope.{Scope}
use Rattle.scope_walk.specs.Inner.Sheets.{sheet_at}
use Rattle.scope_state.specs.Inner.Agrees.{Sets}
use Rattle.definition_walk.specs.Inner.Own.{Holds}
use Rattle.definition_walk.specs.Inner.Adds.{Adds}

-- What is used at a row (`used_at`).
abbrev pub used_by : Sheet → spec.Scope → List ℕ → Row → List ℕ
used_by sheet s l w =
    cond (is_var w) (cond (is_use sheet s l w) (w.name ∷ []) []) (cond (is_ref_brack w) (assigned_vars s (tree_at sheet w.second)) [])

module _ (t : List ℕ) where
  module _ (k : Scope) (extras : Names) where
    -- The names come to the set, for every scope and every list of names that the code's stand for.
    abbrev Gives : (spec.Scope → List ℕ → List ℕ) → Names → Names → Type 0
    Gives f a b = (s : spec.Scope) → Sets k s → (l : List ℕ) → Holds extras l → Adds a (f s l) b

    abbrev pub UsedVar : Row → Names → Names → Type 0
    UsedVar w a b = Gives (λ s l. cond (is_use (sheet_at t) s l w) (w.name ∷ []) []) a b

    abbrev pub UsedStep : Row → Names → Names → Type 0
    UsedStep w a b = Gives (λ s l. used_by (sheet_at t) s l w) a b
