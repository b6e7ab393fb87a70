-- Where a text ends that zeros stand behind.
use Rattle.std.specs.Prelude.{◌≡◌, List, ℕ, ◌≤◌, ◌<◌, length, get_or}

-- No zero stands in front of place r.
abbrev pub NoneBefore : List ℕ → ℕ → Type 0
NoneBefore b r = (i : ℕ) → i < r → get_or b i 0 ≡ 0 → ⊥

-- Place r is the first zero, or the end.
pub record Ends (b : List ℕ) (r : ℕ) : Type 0 where
  pub low : r ≤ length b
  pub before : NoneBefore b r
  pub after : r < length b → get_or b r 0 ≡ 0
