-- Rows of an area stand apart, and inside it.
use Prim.Native.Nat.{ℕ, suc, ◌+◌, ◌*◌, ◌≤◌, ◌<◌}
use native.Mathlib.Nat.{mul-le-mul_left, mul-suc}
use native.Mathlib.Omega.{arith}
use Rattle.sheet.specs.declared.Area.{Area}
use Rattle.sheet.specs.Tables.{row_place, area_end}

module _ (a : Area) where
  pub rows_apart : (m n : ℕ) → m < n → row_place a m + a.width ≤ row_place a n
  rows_apart m n h =
      let p : a.width * suc m ≤ a.width * n = mul-le-mul_left a.width h in
      omega (arith, mul-suc a.width m)

  pub row_inside : (n : ℕ) → n ≤ a.rows → row_place a n + a.width ≤ area_end a
  row_inside n h = rows_apart n (suc a.rows) (omega arith)
