-- The parts of a some-in pattern that are no variables.
use Rattle.std.specs.Prelude.{◌≡◌, Bool, cond, ◌&&◌, ◌||◌, List, ℕ}
use Rattle.sheet.specs.declared.Row.{Row}
use Rattle.sheet.specs.Sheet.{is_input}
use Rattle.sheet.specs.Kinds.{is_var, is_pattern}
use Rattle.scope.specs.Scopes as spec
use Rattle.scope.specs.Scopes.{is_local}
use Rattle.scope_state.specs.declared.Scope.{Scope}
use Rattle.scope_walk.specs.Inner.Sheets.{sheet_at}
use Rattle.scope_state.specs.Inner.Agrees.{Sets}

module _ (t : List ℕ) (k : Scope) where
  -- A local, or `input`.
  abbrev pub IsName : Row → Bool → Type 0
  IsName w r = (s : spec.Scope) → Sets k s → r ≡ (is_var w && (is_input (sheet_at t) w.name || is_local s w.name))

  abbrev pub NonVar : ℕ → Row → ℕ → Type 0
  NonVar row w r =
      (s : spec.Scope) → Sets k s → r ≡ cond (is_pattern w || (is_var w && (is_input (sheet_at t) w.name || is_local s w.name))) 0 row
