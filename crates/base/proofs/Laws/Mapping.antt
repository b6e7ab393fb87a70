-- Laws of `Lists`.
use mathlib.Core.List.{List, [], ◌∷◌}
use mathlib.Core.Option.{Option, none, some}

module _ {A : Type 0} where
  -- The value, as a list.
  abbrev pub to_list : Option A → List A
  to_list none = []
  to_list (some a) = a ∷ []
