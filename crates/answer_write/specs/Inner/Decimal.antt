-- Numbers and rows of numbers as text.
use Rattle.std.specs.Prelude.{List, ℕ, zero, suc, ◌*◌, ◌<◌}
use Rattle.answer_write.specs.Inner.Writes.{Puts}
use Rattle.answer.specs.Text.{digits}

-- ---- a number is written

-- Numbers below this have at most so many digits.
abbrev pub tens : ℕ → ℕ
tens zero = 1
tens (suc k) = 10 * tens k

abbrev pub PutsNumber : List ℕ → ℕ → ℕ → List ℕ → ℕ → Type 0
PutsNumber b at n c r = (most : ℕ) → n < tens (suc most) → Puts b at (digits (suc most) n) c r
