-- After gathering, a local is neither an input nor unscoped; and an input was found in a scope around the query.
use Rattle.std.specs.Prelude.{◌≡◌, true, List, ℕ}
use Rattle.sheet.specs.declared.Row.{Row}
use Rattle.scope.specs.Scopes.{contains, Scope, var_exists}

-- ---- inputs

-- A variable of that name exists in the parents.
pub record ExistsAround (parents : List Scope) (x : ℕ) : Type 0 where
  pub variable : Row
  pub named : variable.name ≡ x
  pub exists : var_exists parents variable ≡ true

abbrev pub InputsFound : List Scope → Scope → Type 0
InputsFound parents s = (x : ℕ) → contains s.inputs x ≡ true → ExistsAround parents x
