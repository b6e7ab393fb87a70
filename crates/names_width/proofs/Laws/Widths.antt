-- Laws of `Widths`.
use mathlib.Core.Path.{◌≡◌}
use mathlib.Core.Bool.{false}
use mathlib.Core.List.{List}
use Prim.Native.Nat.{ℕ, ◌*◌, ◌≤◌}
use Rattle.base.specs.Sets.{member}

-- No member from the end of w words up.
pub record Fits (w : ℕ) (a : List ℕ) : Type 0 where
  pub none : (n : ℕ) → 64 * w ≤ n → member a n ≡ false
