-- What the functions that store an answer ask of where they are called.
use Rattle.std.specs.Prelude.{List, ℕ, ◌+◌, ◌≤◌, ◌<◌, length, get_or}
use Rattle.base.specs.Limits as limits

-- The places of `count` statements, from `base` on: the order says them, and each statement has its mark.
pub record AsksPlaces (base count : ℕ) (order reached : List ℕ) : Type 0 where
  pub places-room : base + count ≤ limits.most_statements
  pub ordered : count ≤ length order
  pub marked : (k : ℕ) → k < count → get_or order k 0 < length reached

-- Each statement of the order has its mark.
abbrev pub Marked : List ℕ → List ℕ → Type 0
Marked order reached = (k : ℕ) → k < length order → get_or order k 0 < length reached
