-- A chain has the definitions of its statement, and no others.
use mathlib.Core.Path.{◌≡◌, sym, ap, ◌∙◌}
use mathlib.Core.Bool.{true, false}
use mathlib.Core.List.Memᴰ
use mathlib.Core.List.{List, Memᴰ}
use mathlib.Core.Logic.{◌⊎◌, inl, inr, ⊎_elim}
use Prim.Native.Nat.{ℕ, zero, suc, ◌<◌}
use native.Mathlib.Omega.{arith}
use lib.Dec.{eqb}
use borrow.Author.Tests.{eqb-true, eq-eqb}
use Rattle.base.proofs.Laws.Truth.{bool_cases, not-both, eq_cases}
use Rattle.order.specs.Definitions.{Definition, of_statement}
use Rattle.order.proofs.Laws.Statements.{mem_statement, statement_mem}
use Rattle.order.specs.Call.{row_count, statement_at, definition_at, definitions}
use Rattle.order_rows.proofs.Laws.RowLaws.{row_listed, listed-row}
use Rattle.order_rows.specs.Inner.Links.{chain_of}

-- d is the definition of one of the first k rows, and of statement s.
record RowOf (w : ℕ) (ws : List ℕ) (s k : ℕ) (d : Definition) : Type 0 where
  pub at : ℕ
  pub below : at < k
  pub is : definition_at w ws at ≡ d
  pub of : d.statement ≡ s

module _ (w : ℕ) (ws : List ℕ) (s : ℕ) where
  mem_chain : (j k : ℕ) → j < k → statement_at w ws j ≡ s → Memᴰ (definition_at w ws j) (chain_of w ws s k)
  unfolding chain_of
  mem_chain j zero h e = absurd (omega arith)
  mem_chain j (suc k) h e = go (eq_cases j k) (bool_cases (eqb (statement_at w ws k) s)) (λ (l : j < k). mem_chain j k l e)
    where
      go : (j ≡ k) ⊎ (j ≡ k → ⊥) → (eqb (statement_at w ws k) s ≡ true) ⊎ (eqb (statement_at w ws k) s ≡ false)
          → (j < k → Memᴰ (definition_at w ws j) (chain_of w ws s k)) → Memᴰ (definition_at w ws j) (chain_of w ws s (suc k))
      go (inl q) (inl p) ih = rw p (Memᴰ.head (ap (definition_at w ws) q))
      go (inl q) (inr p) ih = absurd (not-both (eq-eqb _ s (ap (statement_at w ws) (sym q) ∙ e)) p)
      go (inr q) (inl p) ih = rw p (Memᴰ.tail (ih (omega arith)))
      go (inr q) (inr p) ih = rw p (ih (omega arith))

  chain_mem : {d : Definition} (k : ℕ) → Memᴰ d (chain_of w ws s k) → RowOf w ws s k d
  unfolding chain_of
  chain_mem zero m = absurd (Memᴰ.not-nil m)
  chain_mem {d} (suc k) m = go (bool_cases (eqb (statement_at w ws k) s)) (λ t. chain_mem k t)
    where
      later : RowOf w ws s k d → RowOf w ws s (suc k) d
      later r = record { at = r.at; below = omega arith; is = r.is; of = r.of }

      go : (eqb (statement_at w ws k) s ≡ true) ⊎ (eqb (statement_at w ws k) s ≡ false) → (Memᴰ d (chain_of w ws s k) → RowOf w ws s k d)
          → RowOf w ws s (suc k) d
      go (inl p) ih =
          ⊎_elim
          (λ (q : d ≡ definition_at w ws k).
          record { at = k; below = omega arith; is = sym q; of = ap (λ (e : Definition). e.statement) q ∙ eqb-true _ s p })
          (λ (t : Memᴰ d (chain_of w ws s k)). later (ih t)) (Memᴰ.cases_cons (rw p at m))
      go (inr p) ih = later (ih (rw p at m))

  -- The whole chain has what `of_statement` lists.
  pub chain-listed : (d : Definition) → Memᴰ d (chain_of w ws s (row_count w ws)) → Memᴰ d (of_statement s (definitions w ws))
  chain-listed d m =
      let row = chain_mem (row_count w ws) m in
      mem_statement s (definitions w ws) (Memᴰ.cast (sym row.is) (row_listed w ws row.at row.below)) row.of

  pub listed-chain : (d : Definition) → Memᴰ d (of_statement s (definitions w ws)) → Memᴰ d (chain_of w ws s (row_count w ws))
  listed-chain d m =
      let r = statement_mem s (definitions w ws) m in
      let row = listed-row w ws r.0 in
      Memᴰ.cast (sym row.2) (mem_chain row.0 (row_count w ws) row.1 (ap (λ (e : Definition). e.statement) row.2 ∙ r.1))
