-- A name is never in a query's inputs without being found in a scope around it: for the analysis of the definitions, where each query stands
-- at one place.
use Rattle.std.specs.Prelude.{List, ℕ}
use Rattle.sheet.specs.Sheet.{Sheet}
use Rattle.scope.specs.Trees.{Tree}
use Rattle.scope.specs.Scopes.{Scope}
use Rattle.scope.specs.Inner.Shadowed.{ExistsAround}
use Rattle.original.specs.Inner.Around.{Around}

-- The scopes around a query, with a variable of the name x that exists in them.
pub record FoundAround (sheet : Sheet) (q x : ℕ) : Type 0 where
  pub parents : List Scope
  pub outputs : List Tree
  pub around : Around sheet parents q outputs
  pub found : ExistsAround parents x
