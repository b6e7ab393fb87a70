-- Laws of `Locals`.
use mathlib.Core.Path.{◌≡◌, sym, ap, ◌∙◌}
use mathlib.Core.Bool.{true, false, cond}
use mathlib.Core.List.{List, ◌∷◌, foldl}
use Prim.Native.Nat.{ℕ, ◌≤◌, ◌<◌}
use lib.ListN.{length, set}
use borrow.Author.Tests.{eq-eqb, ne_eqb}
use Rattle.sheet.specs.declared.Row.{Row}
use Rattle.sheet.specs.Inner.Sheet.{row_at}
use Rattle.sheet.specs.Kinds.{is_var}
use Rattle.scope.specs.Trees.{Tree, row_of}
use Rattle.scope.specs.Traverse.{vars}
use Rattle.scope.specs.Scopes as spec
use Rattle.scope.specs.Scopes.{add_local}
use Rattle.scope_state.specs.declared.Scope.{Scope}
use Rattle.scope_walk.specs.Inner.Sheets.{Accepted, expr_count}
use Rattle.scope_state.specs.Inner.Agrees.{WithLocal}
use Rattle.scope_state.specs.Inner.Spans.{span_word}
use Rattle.scope_state.proofs.Laws.Spans.{Short, agrees_local}
use Rattle.scope_walk.specs.Inner.Exprs.{expr_by}
use Rattle.scope_walk.proofs.Laws.Exprs.{row_is}
use Rattle.scope_vars.proofs.Laws.Inputs.{fold-vars}
use Rattle.scope_state.specs.Inner.Chains.{chain_at}
use Rattle.scope_state.proofs.Laws.Chains.{chain-none, chain-row}
use Rattle.scope_gather.specs.Inner.Locals.{LocalStep, LocalsEach}

-- ---- the ways out of `local_step`

module _ (w : Row) (k : Scope) (l : List ℕ) where
  pub local_var : w.kind ≡ 6 → Short w → w.name < length l → (r : Scope) → WithLocal k w.name r → (m : List ℕ) → m ≡ set l w.name (span_word w) → LocalStep w k l r m
  local_var e short low r put m is s a = rw (eq-eqb w.kind 6 e, is) (agrees_local k l r s a w short low put)

  pub local_other : (w.kind ≡ 6 → ⊥) → LocalStep w k l k l
  local_other ne s a = rw (ne_eqb w.kind 6 ne) a

module _ (t : List ℕ) where
  module _ (ok : Accepted t) (row : ℕ) where
    pub locals-none : row ≡ 0 → (k : Scope) (l : List ℕ) → LocalsEach t row k l k l
    locals-none z k l s a = rw (z, chain-none t ok) a

    module _ (some : row ≡ 0 → ⊥) (high : row ≤ expr_count t) where
      abbrev step : spec.Scope → Tree → spec.Scope
      step s e = cond (is_var (row_of e)) (add_local s (row_of e)) s

      in_turn_lem : (s : spec.Scope)
          → foldl add_local s (vars (chain_at t row)) ≡ foldl add_local (step s (expr_by t false row)) (vars (chain_at t (row_at t row).next))
      in_turn_lem s =
          ap (λ (es : List Tree). foldl add_local s (vars es)) (chain-row t ok row some high)
          ∙ fold-vars add_local s (expr_by t false row ∷ chain_at t (row_at t row).next) ∙ sym (fold-vars add_local (step s (expr_by t false row)) (chain_at t (row_at t row).next))

      pub locals-row : (w : Row) → w ≡ row_at t row → (next : ℕ) → next ≡ cond true w.next 0 → (k s₀ s₁ : Scope) (l l₀ l₁ : List ℕ)
          → LocalStep w k l s₀ l₀ → LocalsEach t next s₀ l₀ s₁ l₁ → LocalsEach t row k l s₁ l₁
      locals-row w is next ns k s₀ s₁ l l₀ l₁ h₀ h₁ s a =
          let after : next ≡ (row_at t row).next = ns ∙ ap (λ (v : Row). v.next) is in
          let here : row_of (expr_by t false row) ≡ w = row_is t ok row some high false ∙ sym is in
          rw (in_turn_lem s, here, sym after) (h₁ _ (h₀ s a))
