-- Every query of an accepted sheet but the first is nested in a smaller one, and no query is too deep.
use Rattle.std.specs.Prelude.{ℕ, ◌≤◌, ◌<◌}
use Rattle.sheet.specs.declared.Counts.{Counts}
use Rattle.base.specs.Limits.{nesting}
use Rattle.sheet.specs.Sheet.{Rows}
use Rattle.sheet.specs.Nesting.{parent, level}

-- ---- a query and the one that encloses it

-- Query q is nested in its parent.
pub record NestedIn (c : Counts) (t : Rows) (q : ℕ) : Type 0 where
  pub some-parent : 1 ≤ parent c t q
  pub smaller : parent c t q < q
  pub shallow : level c t (parent c t q) < nesting
