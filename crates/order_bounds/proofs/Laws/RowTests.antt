-- The test of every definition, row by row.
use mathlib.Core.Path.{◌≡◌, refl, ap}
use mathlib.Core.Bool.{Bool, true, ◌&&◌}
use mathlib.Core.List.{List, map}
use Prim.Native.Nat.{ℕ, ◌+◌, ◌≤◌, ◌<◌}
use Rattle.base.specs.Limits.{Limits}
use Rattle.base.specs.Lists.{all, range}
use Rattle.base.proofs.Laws.Ranges.{range-nil, range_cons}
use Rattle.order.specs.Call.{row_count, definition_at, definitions, within}

module _ (lim : Limits) (ws : List ℕ) (n : ℕ) where
  -- Do the definitions from row k on pass?
  unfoldable pub within_from : ℕ → Bool
  within_from k = all (within lim n) (map (definition_at lim.row ws) (range k (row_count lim.row ws)))

  pub within_all : within_from 0 ≡ all (within lim n) (definitions lim.row ws)
  unfolding within_from definitions
  within_all = refl

  pub within_none : (k : ℕ) → row_count lim.row ws ≤ k → within_from k ≡ true
  unfolding within_from
  within_none k h = rw (range-nil k (row_count lim.row ws) h)

  pub within-cons : (k : ℕ) → k < row_count lim.row ws → within_from k ≡ (within lim n (definition_at lim.row ws k) && within_from (k + 1))
  unfolding within_from
  within-cons k h = ap (λ (l : List ℕ). all (within lim n) (map (definition_at lim.row ws) l)) (range_cons k (row_count lim.row ws) h)
