-- Every call of a walk is on a later row, or on none: so a walk ends. And the names of rows are names.
use Rattle.std.specs.Prelude.{ℕ, zero, suc, ◌-◌}

-- What is left of n rows from a row on: least for none, then for the last row.
unfoldable pub rows_left : ℕ → ℕ → ℕ
rows_left n zero = 0
rows_left n (suc r) = suc (n - r)
