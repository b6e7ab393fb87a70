-- Own names: what expressions use, and what is recorded, is of the query's own scope.
use Rattle.std.specs.Prelude.{Bool, ◌||◌, ◌&&◌, eqb}
use Rattle.base.specs.Lists.{all}
use Rattle.order.specs.Definitions.{Definition}
use Rattle.scope.specs.Scopes.{Scope, owns}

-- The name defined is the empty name or the scope's own, and so is every name used.
unfoldable pub own_definition : Scope → Definition → Bool
own_definition sc d = (eqb d.var 0 || owns sc d.var) && all (owns sc) d.used
