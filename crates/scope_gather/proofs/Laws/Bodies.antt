-- Laws of `Bodies`.
use mathlib.Core.Path.{◌≡◌, sym, ap, ◌∙◌, subst}
use mathlib.Core.Bool.{cond}
use mathlib.Core.List.{List, ◌∷◌, ◌++◌, foldl, foldl-append}
use Prim.Native.Nat.{ℕ}
use Rattle.sheet.specs.Kinds.{is_var}
use Rattle.scope.specs.Trees.{Tree, row_of}
use Rattle.scope.specs.Traverse.{vars}
use Rattle.scope.specs.Scopes as spec
use Rattle.scope.specs.Scopes.{no_scope, add_local}
use Rattle.scope_state.specs.declared.Scope.{Scope}
use Rattle.scope_state.specs.Inner.Agrees.{NoNames}
use Rattle.scope_state.specs.Inner.Outers.{Outer}
use Rattle.scope_state.proofs.Laws.Spans.{agrees-none}
use Rattle.scope_state.specs.Inner.Enclosing.{Encloses}
use Rattle.scope_state.proofs.Laws.Enclosing.{scopes_enclosed}
use Rattle.scope_vars.proofs.Laws.Inputs.{fold-vars}
use Rattle.scope_state.specs.Inner.Chains.{chain_at}
use Rattle.scope_gather.specs.Inner.Locals.{LocalsEach}
use Rattle.scope_gather.specs.Inner.Bodies.{EveryBody}

-- The variables of one list, then those of another.
vars-both : (s : spec.Scope) (k l : List Tree) → foldl add_local s (vars (k ++ l)) ≡ foldl add_local (foldl add_local s (vars k)) (vars l)
vars-both s k l =
    fold-vars add_local s (k ++ l) ∙ foldl-append step s k l
    ∙ sym (fold-vars add_local (foldl step s k) l) ∙ ap (λ (u : spec.Scope). foldl add_local u (vars l)) (sym (fold-vars add_local s k))
  where
    step : spec.Scope → Tree → spec.Scope
    step u e = cond (is_var (row_of e)) (add_local u (row_of e)) u

module _ (t outer : List ℕ) where
  pub every_body : (key value : ℕ) (k s₀ s₁ : Scope) (l l₀ l₁ inner : List ℕ) → NoNames k → LocalsEach t key k l s₀ l₀ → LocalsEach t value s₀ l₀ s₁ l₁
      → Encloses outer s₁ l₁ inner → EveryBody t outer key value inner
  every_body key value k s₀ s₁ l l₀ l₁ inner empty h₀ h₁ e parents o =
      let a = h₁ _ (h₀ _ (agrees-none k l empty)) in
      subst (λ (u : spec.Scope). Outer inner (u ∷ parents)) (sym (vars-both no_scope (chain_at t key) (chain_at t value)))
      (scopes_enclosed outer s₁ l₁ inner e parents o _ a)
