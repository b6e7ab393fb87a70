-- A chain, as it is walked: from a row to the row before it of the same statement.
use mathlib.Core.Path.{◌≡◌, refl, ap}
use mathlib.Core.Bool.{true, false}
use mathlib.Core.List.{List, [], ◌∷◌}
use mathlib.Core.Logic.{◌⊎◌, inl, inr}
use Prim.Native.Nat.{ℕ, zero, suc, ◌≤◌}
use native.Mathlib.Omega.{arith}
use lib.Dec.{eqb}
use borrow.Author.Tests.{eqb-true, eq-eqb}
use Rattle.base.proofs.Laws.Truth.{bool_cases}
use Rattle.order.specs.Definitions.{Definition}
use Rattle.order.specs.Call.{statement_at, definition_at}
use Rattle.order_rows.specs.Inner.Links.{last_of, chain_of}

-- Row l, counted from 1, is where the chain of the first k rows begins; or l is 0, and the chain is empty.
pub record Leads (w : ℕ) (ws : List ℕ) (s k l : ℕ) : Type 0 where
  pub below : l ≤ k
  pub last : last_of w ws s l ≡ l
  pub chain : chain_of w ws s k ≡ chain_of w ws s l

module _ (w : ℕ) (ws : List ℕ) (s : ℕ) where
  pub last_leads : (k : ℕ) → Leads w ws s k (last_of w ws s k)
  unfolding last_of chain_of
  last_leads zero = record { below = omega arith; last = refl; chain = refl }
  last_leads (suc k) = go (bool_cases (eqb (statement_at w ws k) s)) (last_leads k)
    where
      go : (eqb (statement_at w ws k) s ≡ true) ⊎ (eqb (statement_at w ws k) s ≡ false) → Leads w ws s k (last_of w ws s k)
          → Leads w ws s (suc k) (last_of w ws s (suc k))
      go (inl p) ih = rw p (record { below = omega arith; last = rw p; chain = refl })
      go (inr p) ih = rw p (record { below = omega arith; last = ih.last; chain = rw p ih.chain })

  -- A row that is the last up to itself is of the statement.
  pub last_row_lem : (k : ℕ) → last_of w ws s (suc k) ≡ suc k → statement_at w ws k ≡ s
  unfolding last_of
  last_row_lem k e = go (bool_cases (eqb (statement_at w ws k) s))
    where
      go : (eqb (statement_at w ws k) s ≡ true) ⊎ (eqb (statement_at w ws k) s ≡ false) → statement_at w ws k ≡ s
      go (inl p) = eqb-true _ s p
      go (inr p) = let f : last_of w ws s k ≡ suc k = rw p at e in absurd (omega (arith, (last_leads k).below))

  -- Its definition is the first of the chain.
  pub definitions_chain_row : (k : ℕ) → last_of w ws s (suc k) ≡ suc k → chain_of w ws s (suc k) ≡ definition_at w ws k ∷ chain_of w ws s (last_of w ws s k)
  unfolding chain_of
  definitions_chain_row k e =
      rw (eq-eqb (statement_at w ws k) s (last_row_lem k e)) (ap (λ (l : List Definition). definition_at w ws k ∷ l) (last_leads k).chain)

  pub definitions_chain_none : chain_of w ws s zero ≡ []
  unfolding chain_of
  definitions_chain_none = refl
