-- Every name in a recorded definition is the empty name, or one that the query's own answer lists as local or unscoped.
use Rattle.std.specs.Prelude.{◌≡◌, true, List}
use Rattle.base.specs.Lists.{all}
use Rattle.order.specs.Definitions.{Definition}
use Rattle.scope.specs.Scopes.{Scope}
use Rattle.definition_once.specs.Inner.Own.{own_definition}

-- All definitions are of the scope's own names.
abbrev pub OwnNames : Scope → List Definition → Type 0
OwnNames sc defs = all (own_definition sc) defs ≡ true
