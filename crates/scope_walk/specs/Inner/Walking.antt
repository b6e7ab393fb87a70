-- What a walk over rows owes at its calls of itself, whatever it gathers: each is on a later row, or on none; and what it learns past a guard.
use Rattle.std.specs.Prelude.{Bool, List, ℕ}
use Rattle.scope.specs.Trees.{Tree}
use Rattle.scope_walk.specs.Inner.Onwards.{rows_left}
use Rattle.scope_walk.specs.Inner.Walks.{over_by}
use Rattle.scope_walk.specs.Inner.Sheets.{counts_at, special_at, expr_count}

module _ (t : List ℕ) where
  -- The measure of a walk at row r.
  abbrev pub remains : ℕ → ℕ
  remains r = rows_left (expr_count t) r

-- ---- a walk that hands on what it found

-- A walk over the expressions at a row, with the rest of its chain if `rest`: the code's value k stands for the definitions' value s where `R k s`.
module _ (t : List ℕ) where
  module _ {K S : Type 0} (R : K → S → Type 0) (f : S → Tree → S) where
    abbrev pub Walk : ℕ → Bool → K → K → Type 0
    Walk row rest k r = (s : S) → R k s → R r (over_by (counts_at t) (special_at t) t f rest s row)
