-- Words written one after the other into a list.
use Rattle.std.specs.Prelude.{◌≡◌, List, ℕ, ◌+◌, ◌≤◌, ◌<◌, length, get_or}

-- The list v is w, with f 0 to f (n - 1) from `at` up.
pub record Written (w v : List ℕ) (at n : ℕ) (f : ℕ → ℕ) : Type 0 where
  pub long : length v ≡ length w
  pub within : (i : ℕ) → i < n → get_or v (at + i) 0 ≡ f i
  pub below : (i : ℕ) → i < at → get_or v i 0 ≡ get_or w i 0
  pub above : (i : ℕ) → at + n ≤ i → get_or v i 0 ≡ get_or w i 0

-- The words of a list.
abbrev pub words_from : List ℕ → ℕ → ℕ
words_from words i = get_or words i 0
