-- The own names of a gathered scope lie below the bound, if the names of all rows do.
use Rattle.std.specs.Prelude.{◌≡◌, Bool, true, ℕ, ltb}
use Rattle.sheet.specs.declared.Row.{Row}
use Rattle.scope.specs.Scopes.{contains, Scope, owns}

-- A row whose name is below n.
abbrev pub name_below : ℕ → Row → Bool
name_below n w = ltb w.name n

-- The names of a scope are below n.
pub record Below (n : ℕ) (s : Scope) : Type 0 where
  pub own : (x : ℕ) → owns s x ≡ true → ltb x n ≡ true
  pub inputs : (x : ℕ) → contains s.inputs x ≡ true → ltb x n ≡ true
