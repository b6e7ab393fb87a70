-- The variables of a some-in pattern that it binds: the locals, `input` apart. They come to a set, and enter the first uses.
use Rattle.std.specs.Prelude.{◌≡◌, Bool, cond, not, ◌&&◌, ℕ, ◌≤◌, ◌<◌, length}
use mathlib.Core.List.{List, [], ◌∷◌, foldl, map}
use Rattle.base.specs.Limits as limits
use Rattle.names.specs.Inner.Names.{Names}
use Rattle.sheet.specs.declared.Row.{Row}
use Rattle.sheet.specs.Sheet.{is_input}
use Rattle.sheet.specs.Kinds.{is_var}
use Rattle.scope.specs.Trees.{tree_at}
use Rattle.scope.specs.Traverse.{leaves}
use Rattle.scope.specs.Scopes as spec
use Rattle.scope.specs.Scopes.{Span, span_of, is_local}
use Rattle.definition.specs.Uses.{name_of, add_first_use}
use Rattle.definition.specs.SomeIn.{some_vars_in}
use Rattle.scope_state.specs.declared.Scope.{Scope}
use Rattle.scope_walk.specs.Inner.Sheets.{sheet_at}
use Rattle.scope_state.specs.Inner.Agrees.{Sets}
use Rattle.definition_walk.specs.Inner.Adds.{Adds}
use Rattle.definition_walk.specs.Inner.Firsts.{Firsts}

module _ (t : List ℕ) where
  -- Does the pattern bind it, if it is a variable?
  abbrev pub binds : spec.Scope → Row → Bool
  binds s w = is_local s w.name && not (is_input (sheet_at t) w.name)

  -- What is asked of a variable.
  pub record AsksSome (w : Row) : Type 0 where
    pub var : w.kind ≡ 6
    pub tables-room : limits.table_entries ≤ length t
    pub name-low : w.name < limits.per_name

  module _ (k : Scope) (w : Row) where
    abbrev pub Binds : Bool → Type 0
    Binds r = (s : spec.Scope) → Sets k s → r ≡ (is_var w && binds s w)

  module _ (k : Scope) where
    -- ---- the walk for names

    abbrev pub SomeStep : Row → Names → Names → Type 0
    SomeStep w a b = (s : spec.Scope) → Sets k s → Adds a (cond (is_var w && binds s w) (w.name ∷ []) []) b

    abbrev pub SomeVars : ℕ → Names → Names → Type 0
    SomeVars row a b = (s : spec.Scope) → Sets k s → Adds a (map name_of (some_vars_in (sheet_at t) s (leaves (tree_at (sheet_at t) row)))) b

    -- ---- and that for first uses

    abbrev pub EnterStep : Row → List ℕ → List ℕ → Type 0
    EnterStep w ws rs =
        (s : spec.Scope) → Sets k s → (spans : List Span) → Firsts ws spans → Firsts rs (cond (is_var w && binds s w) (add_first_use spans (span_of w)) spans)

    abbrev pub SomeEntered : ℕ → List ℕ → List ℕ → Type 0
    SomeEntered row ws rs =
        (s : spec.Scope) → Sets k s → (spans : List Span) → Firsts ws spans
        → Firsts rs (foldl add_first_use spans (map span_of (some_vars_in (sheet_at t) s (leaves (tree_at (sheet_at t) row)))))
