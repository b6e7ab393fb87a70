-- Laws of `Chains`.
use mathlib.Core.Path.{◌≡◌, sym}
use mathlib.Core.Bool.{true, false}
use mathlib.Core.List.{List, [], ◌∷◌}
use Prim.Native.Nat.{ℕ, ◌≤◌}
use Rattle.sheet.specs.Inner.Sheet.{row_at}
use Rattle.scope.specs.Trees.{Tree, chain}
use Rattle.scope.specs.Scopes as spec
use Rattle.scope_state.specs.declared.Scope.{Scope}
use Rattle.scope_walk.specs.Inner.Sheets.{Accepted, expr_count}
use Rattle.scope_state.specs.Inner.Spans.{Steps}
use Rattle.scope_walk.specs.Inner.Exprs.{expr_by}
use Rattle.scope_walk.proofs.Laws.Exprs.{none_is, tree_is}
use Rattle.scope_state.specs.Inner.Chains.{chain_at, EachMember}

module _ (t : List ℕ) where
  module _ (ok : Accepted t) where
    pub chain-none : chain_at t 0 ≡ []
    unfolding chain
    chain-none = rw (none_is t ok true)

    pub chain-row : (row : ℕ) → (row ≡ 0 → ⊥) → row ≤ expr_count t → chain_at t row ≡ expr_by t false row ∷ (chain_at t) (row_at t row).next
    unfolding chain
    chain-row row some high = rw (tree_is t ok row some high)

  module _ (outer : List ℕ) where
    -- A step at an expression, and at each of a chain.
    abbrev At : (List spec.Scope → spec.Scope → Tree → spec.Scope) → ℕ → Scope → List ℕ → Scope → List ℕ → Type 0
    At f row = Steps outer (λ parents s. f parents s (expr_by t false row))

    module _ (ok : Accepted t) (f : List spec.Scope → spec.Scope → Tree → spec.Scope) (row : ℕ) where
      pub each_member_none : row ≡ 0 → (k : Scope) (l : List ℕ) → EachMember t outer f row k l k l
      each_member_none z k l parents o s a = rw (z, chain-none ok) a

      pub each_row : (row ≡ 0 → ⊥) → row ≤ expr_count t → (next : ℕ) → next ≡ (row_at t row).next → (k s₀ s₁ : Scope) (l l₀ l₁ : List ℕ)
          → At f row k l s₀ l₀ → EachMember t outer f next s₀ l₀ s₁ l₁ → EachMember t outer f row k l s₁ l₁
      each_row some high next is k s₀ s₁ l l₀ l₁ h₀ h₁ parents o s a =
          rw (chain-row ok row some high, sym is) (h₁ parents o _ (h₀ parents o s a))
