-- The lowest set bit of a word is the one that its trailing zeros lead to.
use Rattle.std.specs.Prelude.{◌≡◌, true, false, ℕ, ◌≤◌, ◌<◌, min}
use Rattle.base.specs.Sets.{bit}

-- The number r is the lowest set bit of the 64-bit word w from bit a up, or 64 or more where there is none.
pub record LowestBit (w a r : ℕ) : Type 0 where
  pub low : min a 64 ≤ r
  pub gap : (k : ℕ) → a ≤ k → k < r → bit w k ≡ false
  pub found : r < 64 → bit w r ≡ true
