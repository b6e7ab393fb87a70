-- What takes elements one after the other and is not changed by one that it took before.
use Rattle.std.specs.Prelude.{◌≡◌}
use mathlib.Core.List.{List, foldl}

module _ {S E : Type 0} (step : S → E → S) where
  -- An element that was taken before changes nothing.
  abbrev pub Settled : Type 0
  Settled = (s : S) (e : E) (l : List E) → step (foldl step (step s e) l) e ≡ foldl step (step s e) l
