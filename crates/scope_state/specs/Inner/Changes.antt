-- A loop over the members of a set that changes the number of each, in a list with a number for each name.
use Rattle.std.specs.Prelude.{◌≡◌, cond, List, ℕ, ◌<◌, get_or}
use Rattle.base.specs.Limits as limits
use Rattle.base.specs.Sets.{member}

-- The number of a name, v before the loop: f changes it where the name is a member.
abbrev pub changed : List ℕ → (ℕ → ℕ → ℕ) → ℕ → ℕ → ℕ
changed ws f x v = cond (member ws x) (f x v) v

module _ (ws : List ℕ) (f : ℕ → ℕ → ℕ) (l : List ℕ) where
  -- All of them are changed.
  pub record Changed (m : List ℕ) : Type 0 where
    pub has : (x : ℕ) → x < limits.per_name → get_or m x 0 ≡ changed ws f x (get_or l x 0)
