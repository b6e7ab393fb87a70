-- Definitions that were appended to rows of words, in any order.
use Rattle.std.specs.Prelude.{◌≡◌, ℕ, ◌+◌, ◌*◌, ◌≤◌, ◌<◌, get_or}
use mathlib.Core.List.{List, [], ◌∷◌, Memᴰ}
use Rattle.names.specs.Inner.Names.{Names}
use Rattle.order.specs.Definitions.{Definition}
use Rattle.names_width.specs.declared.Width.{Width}
use Rattle.names_width.specs.Inner.Widths.{row_words}
use Rattle.order.specs.Call.{definition_at}
use Rattle.order_rows.specs.Inner.Rows.{held_row}
use Rattle.definition.specs.Uses.{define}
use Rattle.definition_walk.specs.Inner.Own.{Holds}

-- The rows a to b of rs hold what they can of the definitions on a list, of each of them and of no other. The rows before a are those of ws.
pub record Appended (v : Width) (ws rs : List ℕ) (a b : ℕ) (ds : List Definition) : Type 0 where
  pub up : a ≤ b
  pub before : (j : ℕ) → j < row_words v * a → get_or rs j 0 ≡ get_or ws j 0
  pub each : (j : ℕ) → a ≤ j → j < b → (d : Definition) × Memᴰ d ds × (definition_at (row_words v) rs j ≡ held_row (row_words v) d)
  pub all : (d : Definition) → Memᴰ d ds → (j : ℕ) × (a ≤ j) × (j < b) × (definition_at (row_words v) rs j ≡ held_row (row_words v) d)

module _ (v : Width) (i x : ℕ) (k : Names) (c : ℕ) (ws : List ℕ) where
  abbrev pub Pushed : List ℕ → Type 0
  Pushed rs = (l : List ℕ) → Holds k l → Appended v ws rs c (c + 1) (define i x l ∷ [])
