-- Laws of `Sheet`.
use mathlib.Core.Path.{◌≡◌, refl}
use mathlib.Core.List.{List}
use Prim.Native.Nat.{ℕ}
use Rattle.sheet.specs.Inner.Sheet.{fields_at, row_at}

pub row-fields : (t : List ℕ) (r : ℕ) → fields_at t r ≡ row_at t r
unfolding row_at
row-fields t r = refl
