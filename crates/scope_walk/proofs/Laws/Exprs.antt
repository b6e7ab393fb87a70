-- Laws of `Exprs`.
use mathlib.Core.Path.{◌≡◌, ap}
use mathlib.Core.Bool.{Bool, true, false}
use mathlib.Core.List.{List}
use Prim.Native.Nat.{ℕ, ◌≤◌}
use native.Mathlib.Omega.{arith}
use Rattle.sheet.specs.Inner.Sheet.{row_at}
use Rattle.scope.specs.Trees.{nil, node, third_of, row_of, first_of, second_of, tree_at}
use Rattle.scope_walk.proofs.Laws.RowTrees.{tree-none, tree-row}
use Rattle.scope_walk.specs.Inner.Walks.{alone}
use Rattle.scope_walk.specs.Inner.Sheets.{counts_at, special_at, sheet_at, Accepted, expr_count}
use Rattle.scope_walk.specs.Inner.Exprs.{expr_by}

module _ (t : List ℕ) where
  module _ (ok : Accepted t) where
    pub none_is : (rest : Bool) → expr_by t rest 0 ≡ nil
    unfolding sheet_at
    none_is true = tree-none (counts_at t) (special_at t) t ok.facts
    none_is false = ap alone (tree-none (counts_at t) (special_at t) t ok.facts)

    module _ (row : ℕ) (some : row ≡ 0 → ⊥) (high : row ≤ expr_count t) where
      pub tree_is : tree_at (sheet_at t) row
          ≡ node (row_at t row) (tree_at (sheet_at t) (row_at t row).first) (tree_at (sheet_at t) (row_at t row).second)
          (tree_at (sheet_at t) (third_of (row_at t row))) (tree_at (sheet_at t) (row_at t row).next)
      unfolding sheet_at
      tree_is = tree-row (counts_at t) (special_at t) t ok.facts row (omega arith) high

      pub row_is : (rest : Bool) → row_of (expr_by t rest row) ≡ row_at t row
      row_is true = rw tree_is
      row_is false = rw tree_is

      pub first-is : (rest : Bool) → first_of (expr_by t rest row) ≡ tree_at (sheet_at t) (row_at t row).first
      first-is true = rw tree_is
      first-is false = rw tree_is

      pub second_is : (rest : Bool) → second_of (expr_by t rest row) ≡ tree_at (sheet_at t) (row_at t row).second
      second_is true = rw tree_is
      second_is false = rw tree_is
