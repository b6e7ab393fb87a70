-- The extra argument of a call.
use Rattle.std.specs.Prelude.{◌≡◌, Bool, true, false, List, ◌⊎◌, ℕ, ◌≤◌}
use Rattle.std.proofs.Math.Option.{none, some}
use Rattle.scope.specs.Trees.{tree_at}
use Rattle.scope.specs.Paths.{get_extra_arg}
use Rattle.scope_walk.specs.Inner.Sheets.{sheet_at, expr_count}
use Rattle.scope_walk.specs.Inner.Exprs.{expr_by}

module _ (t : List ℕ) (row : ℕ) (call : Bool) (r : ℕ) where
  -- The expression at the row has none, or is not asked for one.
  pub record Absent : Type 0 where
    pub zero : r ≡ 0
    pub nothing : call ≡ true → get_extra_arg (sheet_at t) (tree_at (sheet_at t) row) ≡ none

  -- It is the expression at row r.
  pub record Present : Type 0 where
    pub asked : call ≡ true
    pub low : 1 ≤ r
    pub high : r ≤ expr_count t
    pub is : get_extra_arg (sheet_at t) (tree_at (sheet_at t) row) ≡ some (expr_by t false r)

  abbrev pub ExtraArg : Type 0
  ExtraArg = Absent ⊎ Present
