-- The row whose comprehensions are to be analysed: an expression's own, or none.
use Rattle.std.specs.Prelude.{◌≡◌, Bool, List, ◌⊎◌, ℕ, zero, suc}
use Rattle.scope.specs.Traverse.{comprs}
use Rattle.scope_walk.specs.Inner.Exprs.{expr_by}
use Rattle.definition_expr.specs.declared.Using.{Using}

-- ---- of a chain: its first expression's and the others'

abbrev pub joined_row : ℕ → ℕ → ℕ → ℕ
joined_row zero zero row = 0
joined_row zero (suc n) row = row
joined_row (suc n) others row = row

abbrev pub joining : Using → ℕ → ℕ → Using
joining u first row = record { progress = u.progress; names = u.names; comprs = joined_row first u.comprs row }

module _ (t : List ℕ) where
  -- The comprehensions at `at` are those at `row`.
  pub record ComprsAt (rest : Bool) (row at : ℕ) : Type 0 where
    pub is : (at ≡ row) ⊎ (at ≡ 0)
    pub same : comprs (expr_by t rest at) ≡ comprs (expr_by t rest row)
