-- Laws of `Layout`.
use mathlib.Core.Path.{◌≡◌, refl}
use mathlib.Core.List.{[], ◌∷◌}
use Prim.Native.Nat.{ℕ}
use Rattle.base.specs.Limits as limits
use Rattle.base.specs.Limits.{library}
use Rattle.sheet.specs.Form.{sections}
use Rattle.sheet.specs.declared.Area.{Area}
use Rattle.sheet.specs.Tables.{areas_from, areas}
use Rattle.sheet.specs.Inner.Layout.{builtin_start, expr_start, statement_start, query_start}

-- The same by these.
abbrev area : ℕ → ℕ → ℕ → Area
area at k n = record { start = at; width = k; rows = n }

areas_are : areas
    ≡ area builtin_start 0 library.names
    ∷ area builtin_start 4 limits.most_built_ins
    ∷ area expr_start 8 limits.most_expressions
    ∷ area statement_start 7 limits.most_statements
    ∷ area query_start 1 limits.most_queries
    ∷ []
unfolding areas areas_from sections
areas_are = refl
