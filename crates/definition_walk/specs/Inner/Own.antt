-- What a variable is to a query, by the sets of its scope.
use Rattle.std.specs.Prelude.{◌≡◌, Bool, List, ℕ}
use Rattle.base.specs.Lists.{elem}
use Rattle.base.specs.Sets.{member}
use Rattle.names.specs.Inner.Names.{Names}
use Rattle.sheet.specs.declared.Row.{Row}
use Rattle.scope.specs.Scopes as spec
use Rattle.scope.specs.Scopes.{owns}
use Rattle.definition.specs.Uses.{is_use}
use Rattle.scope_state.specs.declared.Scope.{Scope}
use Rattle.scope_walk.specs.Inner.Sheets.{sheet_at}
use Rattle.scope_state.specs.Inner.Agrees.{Sets}

-- The set holds the names on a list.
pub record Holds (k : Names) (l : List ℕ) : Type 0 where
  pub has : (x : ℕ) → elem x l ≡ member k.words x

module _ (k : Scope) where
  abbrev pub Owns : ℕ → Bool → Type 0
  Owns x r = (s : spec.Scope) → Sets k s → r ≡ owns s x

module _ (t : List ℕ) (k : Scope) where
  abbrev pub IsUse : Names → Row → Bool → Type 0
  IsUse extras w r = (s : spec.Scope) → Sets k s → (l : List ℕ) → Holds extras l → r ≡ is_use (sheet_at t) s l w
