-- The theorems on schedules. They speak of plain walks (PlainWalk), of the turn rule and what is read off it (Turns), of relistings
-- (Relisting) and of sequences (Sequence), and are to be read with those definitions alone.
use Rattle.std.specs.Prelude.{◌≡◌, List, ℕ}
use Rattle.order.specs.Definitions.{Definition, plain_walk, WalkEnded}

-- ---- the turn rule is a plain walk

-- The list is what some picks take, and after them every pick would be skipped.
pub record EndedWalk (defs : List Definition) (n : ℕ) (taken : List ℕ) : Type 0 where
  pub picks : List ℕ
  pub along : taken ≡ plain_walk defs n picks
  pub ended : WalkEnded defs n (plain_walk defs n picks)
