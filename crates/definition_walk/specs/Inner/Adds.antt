-- A set to which the names on a list came.
use Rattle.std.specs.Prelude.{◌≡◌, ◌||◌, List, ℕ}
use Rattle.base.specs.Lists.{elem}
use Rattle.base.specs.Sets.{member}
use Rattle.names.specs.Inner.Names.{Names}

pub record Adds (a : Names) (l : List ℕ) (b : Names) : Type 0 where
  pub has : (x : ℕ) → member b.words x ≡ (elem x l || member a.words x)
