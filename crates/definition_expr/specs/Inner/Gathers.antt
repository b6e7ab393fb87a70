-- What the uses of one expression do to a state, by whether all its variables are defined.
use mathlib.Core.List.{List, [], ◌∷◌, foldl}
use Rattle.std.specs.Prelude.{ℕ}
use Rattle.sheet.specs.Sheet.{Sheet}
use Rattle.scope.specs.Trees.{Tree}
use Rattle.definition.specs.States.{State, in_turn}
use Rattle.definition.specs.Using.{gather_used_vars}

-- ---- what expressions use is the same before and after

module _ (sheet : Sheet) where
  -- ---- each expression on a list, up to the first fault: the first step of `process_stmt`

  abbrev pub use_each : ℕ → List Tree → State → State
  use_each i es s = foldl (λ u e. in_turn (gather_used_vars sheet i [] e ∷ []) u) s es
