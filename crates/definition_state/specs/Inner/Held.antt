-- A list of definitions as a set of rows of words. A row has what it has room for of a definition, which is all of it where the used names
-- are low: so no step has to know that they are, and the one that hands the rows on does.
use Rattle.std.specs.Prelude.{◌≡◌, ℕ, ◌<◌}
use mathlib.Core.List.{List, Memᴰ}
use Rattle.names_width.specs.declared.Width.{Width}
use Rattle.names_width.specs.Inner.Widths.{row_words}
use Rattle.order.specs.Definitions.{Definition}
use Rattle.order.specs.Call.{definition_at}
use Rattle.order_rows.specs.Inner.Rows.{held_row}

-- The first c rows of w hold what they can of the definitions on a list, of each of them and of no other.
pub record Held (v : Width) (w : List ℕ) (c : ℕ) (defs : List Definition) : Type 0 where
  pub each : (j : ℕ) → j < c → (d : Definition) × Memᴰ d defs × (definition_at (row_words v) w j ≡ held_row (row_words v) d)
  pub all : (d : Definition) → Memᴰ d defs → (j : ℕ) × (j < c) × (definition_at (row_words v) w j ≡ held_row (row_words v) d)
