-- Paths of at most three names as the code has them, and the path of a reference row by row.
use Rattle.std.specs.Prelude.{◌≡◌, Bool, true, false, cond, ◌&&◌, List, [], ◌∷◌, ◌++◌, ℕ, eqb, Option, None, Some}
use Rattle.std.proofs.Math.Option as found
use Rattle.sheet.specs.declared.Row.{Row}
use Rattle.sheet.specs.Kinds.{is_string}
use Rattle.scope.specs.Trees.{row_of, tree_at}
use Rattle.scope.specs.Paths.{get_path_string}
use Rattle.scope_paths.specs.declared.paths.Path.{Path}
use Rattle.scope_paths.specs.declared.paths.Path.TheVariants as path
use Rattle.scope_walk.specs.Inner.Sheets.{sheet_at}

abbrev pub short_of : List ℕ → Path
short_of [] = path.Empty
short_of (a ∷ []) = path.One a
short_of (a ∷ (b ∷ [])) = path.Two a b
short_of (a ∷ (b ∷ (c ∷ []))) = path.Three a b c
short_of (a ∷ (b ∷ (c ∷ (d ∷ l)))) = path.Long

abbrev pub found_path : found.Option (List ℕ) → Option Path
found_path found.none = None
found_path (found.some l) = Some (short_of l)

abbrev pub appended : Path → ℕ → Path
appended path.Empty x = path.One x
appended (path.One a) x = path.Two a x
appended (path.Two a b) x = path.Three a b x
appended (path.Three a b c) x = path.Long
appended path.Long x = path.Long

abbrev pub paths_agree : Path → Path → Bool
paths_agree path.Empty path.Empty = true
paths_agree (path.One a) (path.One x) = eqb a x
paths_agree (path.Two a b) (path.Two x y) = eqb a x && eqb b y
paths_agree (path.Three a b c) (path.Three x y z) = eqb a x && (eqb b y && eqb c z)
paths_agree path.Long path.Long = true
paths_agree p q = false

-- ---- the path of a row

-- Over the index row b.
abbrev pub with_index : Row → List ℕ → List ℕ
with_index b l = cond (is_string b) (l ++ (b.name ∷ [])) l

module _ (t : List ℕ) where
  abbrev pub IndexStep : ℕ → Path → Path → Type 0
  IndexStep row p r = (l : List ℕ) → p ≡ short_of l → r ≡ short_of (with_index (row_of (tree_at (sheet_at t) row)) l)

  -- ---- the path from a row on

  abbrev pub path_at : ℕ → found.Option (List ℕ)
  path_at row = get_path_string (tree_at (sheet_at t) row)
