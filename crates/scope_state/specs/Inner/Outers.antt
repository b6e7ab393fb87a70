-- The scopes around a query as one number a name.
use Rattle.std.specs.Prelude.{◌≡◌, Bool, List, ℕ, ◌<◌, leb, get_or}
use Rattle.base.specs.Limits as limits
use Rattle.sheet.specs.declared.Row.{Row}
use Rattle.scope.specs.Scopes.{Scope, var_exists}

-- Each name's number is the least line at which a variable of that name exists in the parents; it is past all lines where none does.
pub record Outer (outer : List ℕ) (parents : List Scope) : Type 0 where
  pub has : (w : Row) → w.name < limits.per_name → w.line < 65536 → var_exists parents w ≡ leb (get_or outer w.name 0) w.line

abbrev pub Exists : List ℕ → Row → Bool → Type 0
Exists outer w r = (parents : List Scope) → Outer outer parents → r ≡ var_exists parents w
