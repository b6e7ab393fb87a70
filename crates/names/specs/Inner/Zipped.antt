-- Words that are made of the words of two lists, one by one.
use Rattle.std.specs.Prelude.{◌≡◌, List, ℕ, ◌<◌, length, get_or}

-- Each of the first n words of r is a result of `make` of the words of a and b there.
pub record Zipped (make : ℕ → ℕ → ℕ → Type 0) (n : ℕ) (a b r : List ℕ) : Type 0 where
  pub long : length r ≡ n
  pub each : (i : ℕ) → i < n → make (get_or a i 0) (get_or b i 0) (get_or r i 0)
