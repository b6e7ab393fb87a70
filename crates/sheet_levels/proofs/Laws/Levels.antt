-- Laws of `Levels`.
use Prim.Native.Nat.{ℕ, zero, suc, ◌+◌}

-- A level that was found some steps up.
abbrev pub level_after : ℕ → ℕ → ℕ
level_after s zero = zero
level_after s (suc l) = s + suc l
