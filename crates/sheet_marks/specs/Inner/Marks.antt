-- The marks in memory, as the namings grow.
use Rattle.std.specs.Prelude.{◌≡◌, cond, List, [], ◌∷◌, ℕ, ◌≤◌, ◌<◌, eqb, length, get_or, set}
use Rattle.base.specs.Inner.Sizes as sizes
use Rattle.sheet.specs.declared.Counts.{Counts}
use Rattle.sheet.specs.Naming.{Entry, target, Naming, namers, upwards}
use Rattle.sheet_marks.specs.Inner.Codes.{code_of, next_code}

-- The marks of the rows, and of none, by these namings.
pub record Marks (ns : List Naming) (w : List ℕ) : Type 0 where
  pub room : sizes.per_row ≤ length w
  pub code : (k : ℕ) → k < sizes.per_row → get_or w k 0 ≡ code_of k (namers k ns)

-- ---- what a field of row `by` names

module _ (c : Counts) (by : ℕ) where
  unfoldable pub name_work : Entry → List ℕ → List ℕ
  name_work e w =
      let to = target c e.field e.value in
      cond (eqb to 0) w (set w to (next_code (get_or w to 0) (upwards by to) e.field.chain e.place))

  unfoldable pub row_work : List Entry → List ℕ → List ℕ
  row_work [] w = w
  row_work (e ∷ es) w = row_work es (name_work e w)
