-- The expression at a row of the tables, with the rest of its chain or without.
use Rattle.std.specs.Prelude.{Bool, cond, List, ℕ}
use Rattle.scope.specs.Trees.{Tree, tree_at}
use Rattle.scope_walk.specs.Inner.Walks.{alone}
use Rattle.scope_walk.specs.Inner.Sheets.{sheet_at}

module _ (t : List ℕ) where
  -- With the rest if `rest`.
  abbrev pub expr_by : Bool → ℕ → Tree
  expr_by rest row = cond rest (tree_at (sheet_at t) row) (alone (tree_at (sheet_at t) row))
