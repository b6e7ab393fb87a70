-- The digits that bytes start with, and when they are a number.
use Rattle.std.specs.Prelude.{Bool, true, false, List, [], ◌∷◌, ℕ}
use Rattle.sheet.specs.Text.{digit}

abbrev pub keep : Bool → ℕ → List ℕ → List ℕ
keep true b ds = b ∷ ds
keep false b ds = []

-- The digits that bytes start with.
unfoldable pub digits_of : List ℕ → List ℕ
digits_of [] = []
digits_of (b ∷ s) = keep (digit b) b (digits_of s)
