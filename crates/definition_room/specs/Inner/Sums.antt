-- Sums over the rows of a section, and over the namings of rows: where each row is named at most once, the namings sum up to no more.
use Rattle.std.specs.Prelude.{ℕ, zero, suc, ◌+◌}

-- ---- over rows

-- The sum over the rows 1 to n.
unfoldable pub sum_to : (ℕ → ℕ) → ℕ → ℕ
sum_to g zero = 0
sum_to g (suc n) = sum_to g n + g (suc n)
