-- The names that an extra argument binds.
use Rattle.std.specs.Prelude.{◌≡◌, false, List, [], ℕ}
use Rattle.names.specs.Inner.Names.{Names}
use Rattle.scope.specs.Scopes as spec
use Rattle.definition_once.specs.Inner.OnceWay.{Nested, once_way}
use Rattle.scope_walk.specs.Inner.Sheets.{sheet_at}
use Rattle.scope_state.specs.Inner.Outers.{Outer}
use Rattle.scope_walk.specs.Inner.Exprs.{expr_by}
use Rattle.definition_walk.specs.Inner.Own.{Holds}

module _ (t outer : List ℕ) (arg : ℕ) where
  pub record ExtraVars (r : Names) : Type 0 where
    pub none : arg ≡ 0 → Holds r []
    pub all : (arg ≡ 0 → ⊥) → (nested : Nested) (parents : List spec.Scope) → Outer outer parents
        → Holds r ((once_way (sheet_at t) nested parents).extra_vars (expr_by t false arg))
