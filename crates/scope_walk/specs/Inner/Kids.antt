-- The rows that a walk enters from a row.
use Rattle.std.specs.Prelude.{List, [], ◌∷◌, map, ℕ}
use Rattle.sheet.specs.declared.Row.{Row}
use Rattle.scope.specs.Traverse.{Child, child_of, children_of}
use Rattle.scope_walk.specs.declared.Kids.{Kids}

-- At most three, as the code has them.
abbrev pub kids_from : List ℕ → Kids
kids_from [] = record { first = 0; second = 0; third = 0 }
kids_from (a ∷ []) = record { first = a; second = 0; third = 0 }
kids_from (a ∷ b ∷ []) = record { first = a; second = b; third = 0 }
kids_from (a ∷ b ∷ c ∷ l) = record { first = a; second = b; third = c }

-- The rows of some children, in order.
abbrev pub kids_by : List Child → Row → Kids
kids_by ks w = kids_from (map (λ k. child_of k w.first w.second w.third) ks)

-- Those of `traverse`.
unfoldable pub kids_of : Row → Kids
kids_of w = kids_by (children_of w) w

-- All three fields.
abbrev pub all_fields : Row → Kids
all_fields w = record { first = w.first; second = w.second; third = w.third }
