-- A row is written value by value.
use mathlib.Core.Path.{◌≡◌, refl, ap, ◌∙◌}
use mathlib.Core.List.{List, [], ◌∷◌, ◌++◌, append_assoc}
use Prim.Native.Nat.{ℕ}
use Rattle.sheet.specs.Text.{newline, space}
use Rattle.base.specs.Lists.{concat_map}
use Rattle.answer.specs.Text.{decimal, row_line}

-- A value and the space behind it.
abbrev pub spaced : ℕ → List ℕ
spaced x = decimal x ++ (space ∷ [])

pub row_by_values : (front : List ℕ) (last : ℕ) → concat_map spaced front ++ (decimal last ++ (newline ∷ [])) ≡ row_line (front ++ (last ∷ []))
row_by_values [] last = refl
row_by_values (x ∷ []) last = append_assoc (spaced x) [] _ ∙ append_assoc (decimal x) (space ∷ []) _
row_by_values (x ∷ (y ∷ front)) last =
    append_assoc (spaced x) (concat_map spaced (y ∷ front)) _ ∙ append_assoc (decimal x) (space ∷ []) _
    ∙ ap (λ (l : List ℕ). decimal x ++ (space ∷ l)) (row_by_values (y ∷ front) last)
