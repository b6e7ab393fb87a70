-- The walk over an index that defines its names.
use Rattle.std.specs.Prelude.{◌≡◌, List, map, ℕ, ◌+◌, ◌/◌, ◌≤◌, length}
use Rattle.names.specs.Inner.Names.{Names}
use Rattle.names_width.specs.declared.Width.{Width}
use Rattle.names_width.specs.Inner.Widths as Widths
use Rattle.sheet.specs.declared.Row.{Row}
use Rattle.scope.specs.Trees.{tree_at}
use Rattle.scope.specs.Scopes as spec
use Rattle.definition.specs.Uses.{define, assigned_vars}
use Rattle.scope_state.specs.declared.Scope.{Scope}
use Rattle.scope_walk.specs.Inner.Sheets.{sheet_at}
use Rattle.scope_state.specs.Inner.Agrees.{Sets}
use Rattle.definition_walk.specs.Inner.Own.{Holds}
use Rattle.definition_walk.specs.Inner.Assigned.{leaf_at}
use Rattle.definition_walk.specs.Inner.Appended.{Appended}

-- ---- names that are defined

module _ (v : Width) (k : Scope) where
  -- There is room for a row for each name on the list, for a scope that the code's stands for.
  pub record FitsIndex (names : spec.Scope → List ℕ) (count size : ℕ) : Type 0 where
    pub scope : spec.Scope
    pub sets : Sets k scope
    pub low : count + length (names scope) ≤ size / Widths.row_words v

  -- The names on the list were defined from those in the set, for every scope that the code's stands for.
  pub record Defined (i : ℕ) (names : spec.Scope → List ℕ) (used : Names) (ws rs : List ℕ) (a b : ℕ) : Type 0 where
    pub count : (s : spec.Scope) → Sets k s → b ≡ a + length (names s)
    pub rows : (s : spec.Scope) → Sets k s → (l : List ℕ) → Holds used l → Appended v ws rs a b (map (λ (x : ℕ). define i x l) (names s))

  abbrev pub LeafFits : Row → ℕ → ℕ → Type 0
  LeafFits w count size = FitsIndex (λ s. leaf_at s w) count size

  abbrev pub LeafDefined : ℕ → Row → Names → List ℕ → List ℕ → ℕ → ℕ → Type 0
  LeafDefined i w used ws rs a b = Defined i (λ s. leaf_at s w) used ws rs a b

-- ---- the walk

module _ (t : List ℕ) (v : Width) (k : Scope) where
  abbrev pub IndexFits : ℕ → ℕ → ℕ → Type 0
  IndexFits row count size = FitsIndex v k (λ s. assigned_vars s (tree_at (sheet_at t) row)) count size

  abbrev pub IndexDefined : ℕ → ℕ → Names → List ℕ → List ℕ → ℕ → ℕ → Type 0
  IndexDefined i row used ws rs a b = Defined v k i (λ s. assigned_vars s (tree_at (sheet_at t) row)) used ws rs a b
