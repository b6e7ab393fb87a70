-- The rows of one statement, linked: a cell of `first` for each statement, and one of `next` for each row. A cell holds the row that comes
-- next, counted from 1, or 0. A chain runs from the last row of its statement to the first.
use Rattle.std.specs.Prelude.{◌≡◌, cond, List, [], ◌∷◌, ℕ, zero, suc, ◌+◌, ◌≤◌, ◌<◌, eqb, get_or, Option, MatchOption}
use Rattle.base.specs.Limits as limits
use Rattle.order.specs.Definitions.{Definition}
use Rattle.order.specs.Call.{row_count, statement_at, definition_at}

module _ (w : ℕ) (ws : List ℕ) (s : ℕ) where
  -- The last of the first k rows that is of statement s, counted from 1, or 0.
  unfoldable pub last_of : ℕ → ℕ
  last_of zero = zero
  last_of (suc k) = cond (eqb (statement_at w ws k) s) (suc k) (last_of k)

  -- The definitions of statement s in the first k rows, the last first.
  unfoldable pub chain_of : ℕ → List Definition
  chain_of zero = []
  chain_of (suc k) = cond (eqb (statement_at w ws k) s) (definition_at w ws k ∷ chain_of k) (chain_of k)

-- A chain ends: each row leads to an earlier one, or to none.
pub record LinksDescend (first next : List ℕ) : Type 0 where
  pub starts : (s : ℕ) → get_or first s 0 ≤ limits.most_definitions
  pub down : (j : ℕ) → get_or next j 0 ≤ j

-- What a step along a chain from the cell `at` gives, and the cell that it leads to.
abbrev pub ChainSteps : List ℕ → ℕ → Option ℕ → ℕ → Type 0
ChainSteps next at r after = MatchOption r (at ≡ 0) (λ k. (at ≡ k + 1) × (after ≡ get_or next k 0))

-- The cells for the first k rows, of which there are few enough.
pub record LinkedTo (w : ℕ) (ws first next : List ℕ) (k : ℕ) : Type 0 where
  pub room : k ≤ limits.most_definitions
  pub head : (s : ℕ) → s < limits.most_statements → get_or first s 0 ≡ last_of w ws s k
  pub follow : (j : ℕ) → j < k → get_or next j 0 ≡ last_of w ws (statement_at w ws j) j
  pub ends : LinksDescend first next

-- The same for all rows.
abbrev pub Linked : ℕ → List ℕ → List ℕ → List ℕ → Type 0
Linked w ws first next = LinkedTo w ws first next (row_count w ws)
