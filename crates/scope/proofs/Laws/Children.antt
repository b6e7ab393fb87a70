-- What is entered of a kind is one of five lists of children: what holds of these holds of every kind's.
use mathlib.Core.List.{List, [], ◌∷◌}
use Prim.Native.Nat.{ℕ, zero, suc}
use lib.ListN.{get_or, drop}
use Rattle.scope.specs.Traverse.{Child, first_field, second_field, third_field, children}

module _ (P : List Child → Type 0)
    (none : P [])
    (first : P (first_field ∷ []))
    (second : P (second_field ∷ []))
    (two : P (first_field ∷ second_field ∷ []))
    (three : P (first_field ∷ second_field ∷ third_field ∷ [])) where
  -- Of each element; the last one closes the list.
  abbrev Each : List (List Child) → Type 0
  Each [] = P []
  Each (ks ∷ l) = P ks × Each l

  at : (l : List (List Child)) → Each l → (kind : ℕ) → P (get_or l kind [])
  at [] h kind = h
  at (ks ∷ l) h zero = h.0
  at (ks ∷ l) h (suc kind) = at l h.1 kind

  pub of_children : (kind : ℕ) → P (get_or children kind [])
  of_children = at children leaves
    where
      operators : Each (drop 16 children)
      operators = (two, (two, (two, (two, (two, (two, (three, none)))))))

      calls : Each (drop 10 children)
      calls = (none, (none, (none, (second, (first, (first, operators))))))

      leaves : Each children
      leaves = (none, (none, (none, (none, (none, (none, (none, (first, (first, (first, calls))))))))))
