-- Whether a walk over an expression met one that passes a test.
use Rattle.std.specs.Prelude.{◌≡◌, Bool, ◌&&◌, ◌||◌, List, ℕ}
use Rattle.sheet.specs.declared.Row.{Row}
use Rattle.sheet.specs.Sheet.{is_input}
use Rattle.sheet.specs.Kinds.{is_var}
use Rattle.scope.specs.Trees.{Tree, row_of}
use Rattle.scope_walk.specs.Inner.Sheets.{sheet_at}
use Rattle.scope_walk.specs.Inner.Walking.{Walk}

-- Up to this row.
abbrev pub met : (Row → Bool) → Bool → Row → Bool
met p found w = found || p w

module _ (t : List ℕ) (p : Row → Bool) where
  abbrev pub MetStep : Row → Bool → Bool → Type 0
  MetStep w a r = r ≡ met p a w

  abbrev pub MetWalk : ℕ → Bool → Bool → Bool → Type 0
  MetWalk row rest a r = Walk t (λ (k s : Bool). k ≡ s) (λ (u : Bool) (e : Tree). met p u (row_of e)) row rest a r

-- ---- `input`

abbrev pub reads : List ℕ → Row → Bool
reads t w = is_var w && is_input (sheet_at t) w.name
