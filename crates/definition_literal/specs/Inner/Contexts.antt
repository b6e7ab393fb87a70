-- The modifiers that a context stands for.
use Rattle.std.specs.Prelude.{◌≡◌, List, ℕ}
use Rattle.scope.specs.Trees.{tree_at}
use Rattle.scope.specs.Traverse.{comprs}
use Rattle.definition.specs.Comprs.{Mods}
use Rattle.scope_walk.specs.Inner.Sheets.{sheet_at}
use Rattle.definition_walk.specs.Inner.Own.{Holds}
use Rattle.definition_literal.specs.declared.context.Context.{Context}

pub record Stands (t : List ℕ) (x : Context) (m : Mods) : Type 0 where
  pub comprs : m.comprs ≡ comprs (tree_at (sheet_at t) x.mods)
  pub names : Holds x.names m.used_vars
