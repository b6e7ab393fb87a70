-- Lists of numbers on which none stands twice.
use Rattle.std.specs.Prelude.{Bool, true, not, ◌&&◌, List, [], ◌∷◌, ℕ}
use Rattle.base.specs.Lists.{elem}

-- Does no number stand twice?
abbrev pub distinct : List ℕ → Bool
distinct [] = true
distinct (x ∷ l) = not (elem x l) && distinct l
