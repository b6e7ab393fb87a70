-- What comes next of the members of a set.
use Rattle.std.specs.Prelude.{◌≡◌, true, List, ℕ, ◌+◌, ◌<◌, ◌≤◌, Option, MatchOption}
use Rattle.base.specs.Sets.{member}
use Rattle.names.specs.Inner.Sets.{Gap}

-- The number x is the lowest member from a up, below the end.
pub record Lowest (ws : List ℕ) (end a x : ℕ) : Type 0 where
  pub low : a ≤ x
  pub high : x < end
  pub gap : Gap ws a x
  pub found : member ws x ≡ true

-- From a up comes the lowest member, and what is left begins behind it; or there is none.
abbrev pub Yields : List ℕ → ℕ → ℕ → Option ℕ → ℕ → Type 0
Yields ws end a r b = MatchOption r (Gap ws a end) (λ x. Lowest ws end a x × (b ≡ x + 1))
