-- The pairings of an assignment and the leaves of a pattern, row by row.
use Rattle.std.specs.Prelude.{List, ℕ}
use Rattle.scope.specs.Trees.{Tree, tree_at}
use Rattle.scope.specs.Traverse.{leaves}
use Rattle.scope_walk.specs.Inner.Sheets.{sheet_at}

module _ (t : List ℕ) where
  abbrev pub leaves_at : ℕ → List Tree
  leaves_at row = leaves (tree_at (sheet_at t) row)
