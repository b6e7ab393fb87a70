-- The lines of rows, one after the other.
use mathlib.Core.Path.{◌≡◌}
use mathlib.Core.List.{List, [], ◌∷◌}
use Prim.Native.Nat.{ℕ, zero, suc, ◌+◌, ◌≤◌}
use native.Mathlib.Omega.{arith}
use lib.ListN.{get_or}
use Rattle.sheet.specs.Form.{line_of}

pub line-some : (counts : List ℕ) (k r : ℕ) → 1 ≤ line_of counts k r
unfolding line_of
line-some counts zero r = omega arith
line-some [] (suc k) r = omega arith
line-some (n ∷ counts) (suc k) r = omega arith

-- A row stands so many lines behind its heading.
pub line_row : (counts : List ℕ) (k r : ℕ) → line_of counts k r ≡ line_of counts k 0 + r
unfolding line_of
line_row counts zero r = omega arith
line_row [] (suc k) r = omega (arith, line_row [] k r)
line_row (n ∷ counts) (suc k) r = omega (arith, line_row counts k r)

-- And the next section behind this one's rows and its empty line.
pub line-next : (counts : List ℕ) (k r : ℕ) → line_of counts (suc k) r ≡ line_of counts k r + get_or counts k 0 + 2
unfolding line_of
line-next [] zero r = omega arith
line-next [] (suc k) r = omega (arith, line-next [] k r)
line-next (n ∷ counts) zero r = omega arith
line-next (n ∷ counts) (suc k) r = omega (arith, line-next counts k r)
