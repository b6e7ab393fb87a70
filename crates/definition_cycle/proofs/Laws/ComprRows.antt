-- The row whose comprehensions are to be analysed: an expression's own, or none.
use mathlib.Core.Path.{◌≡◌}
use mathlib.Core.Bool.{Bool}
use mathlib.Core.List.{List}
use mathlib.Core.Logic.{◌⊎◌, inl, inr}
use Prim.Native.Nat.{ℕ, ◌≤◌}
use native.Mathlib.Omega.{arith}
use Rattle.scope_walk.specs.Inner.Sheets.{expr_count}
use Rattle.definition_expr.specs.Inner.ComprRows.{ComprsAt}
use Rattle.definition_cycle.specs.Inner.Sites.{LiesIn}

module _ (t : List ℕ) (rest : Bool) (row at : ℕ) (c : ComprsAt t rest row at) where
  pub at_low : row ≤ expr_count t → at ≤ expr_count t
  at_low low = go c.is
    where
      go : (at ≡ row) ⊎ (at ≡ 0) → at ≤ expr_count t
      go (inl e) = omega arith
      go (inr z) = omega arith

  pub at_lies : (query : ℕ) → LiesIn t query row → LiesIn t query at
  at_lies query lies = go c.is
    where
      go : (at ≡ row) ⊎ (at ≡ 0) → LiesIn t query at
      go (inl e) = rw e lies
      go (inr z) = inl z
