-- What the queries after a query weigh together: the room for all that is nested in it.
use mathlib.Core.List.{List}
use Prim.Native.Nat.{ℕ, ◌+◌, ◌-◌, ◌≤◌, ◌<◌}
use native.Mathlib.Omega.{arith}
use Rattle.sheet.specs.declared.Counts.{Counts}
use Rattle.sheet.specs.declared.Special.{Special}
use Rattle.sheet.specs.Inner.Sheet.{sheet_of}
use Rattle.scope.specs.Statements.{stmts_of}
use Rattle.definition_room.specs.Inner.Sizes.{total, weight}
use Rattle.definition_room.specs.Inner.Sums.{sum_to}
use Rattle.definition_room.proofs.Laws.Sums.{sum_longer, sum_last}

module _ (c : Counts) (x : Special) (t : List ℕ) where
  -- What query q weighs.
  abbrev pub weight_of : ℕ → ℕ
  weight_of q = total weight (stmts_of (sheet_of c x t) q)

  -- What the queries after query q weigh.
  unfoldable pub above : ℕ → ℕ
  above q = sum_to weight_of c.queries - sum_to weight_of q

  -- A later query takes its weight of that, and leaves the queries after it theirs.
  pub above-later : (q v : ℕ) → q < v → v ≤ c.queries → weight_of v + above v ≤ above q
  unfolding above
  above-later q v l h =
      omega (
        arith,
        sum_last weight_of v (omega arith),
        sum_longer weight_of q (v - 1) (omega arith),
        sum_longer weight_of v c.queries h,
      )
