-- Laws of `Vars`.
use mathlib.Core.Path.{◌≡◌, refl, sym, subst}
use mathlib.Core.Bool.{Bool, true, false, cond, not, ◌&&◌}
use mathlib.Core.List.{List}
use mathlib.Core.Option.{some}
use Prim.Native.Nat.{ℕ, ◌≤◌}
use lib.ListN.{get_or}
use Rattle.sheet.specs.declared.Row.{Row}
use Rattle.sheet.specs.Sheet.{Sheet, is_input}
use Rattle.sheet.specs.Inner.Sheet.{row_at}
use Rattle.sheet.specs.Kinds.{is_assign, is_col_eq}
use Rattle.scope.specs.Trees.{Tree}
use Rattle.scope.specs.Traverse.{traverse, leaves, vars}
use Rattle.scope.specs.Scopes.{contains, var_exists, add_input, use_input}
use Rattle.scope.specs.Scopes as spec
use Rattle.scope.specs.Gather.{input_var, gather_input_vars, gather_assigned_vars, gather_read, gather_vars}
use Rattle.scope_state.specs.declared.Scope.{Scope}
use Rattle.scope_walk.specs.Inner.Sheets.{sheet_at, Accepted, expr_count}
use Rattle.scope_state.specs.Inner.Spans.{SpanWord}
use Rattle.scope_walk.specs.Inner.Exprs.{expr_by}
use Rattle.scope_walk.proofs.Laws.Exprs.{none_is, row_is, first-is, second_is}
use Rattle.scope_vars.specs.Inner.Inputs.{InputWalk}
use Rattle.scope_vars.specs.Inner.Assigned.{AssignWalk}
use Rattle.scope_vars.specs.Inner.Loops.{LoopWalk}
use Rattle.scope_vars.proofs.Laws.Loops.{steps_keep}
use Rattle.scope_vars.specs.Inner.Vars.{ReadWalk, BoundWalk, VarsWalk}

-- ---- gathering inputs keeps the locals

module _ (sheet : Sheet) (parents : List spec.Scope) where
  input_keeps : (s : spec.Scope) (w : Row) → (input_var sheet parents s w).locals ≡ s.locals
  unfolding input_var add_input use_input
  input_keeps s w = go (is_input sheet w.name) (not (contains s.unscoped w.name) && var_exists parents w)
    where
      go : (a b : Bool) → (cond a (use_input true s) (cond b (add_input s w.name) s)).locals ≡ s.locals
      go true b = refl
      go false true = refl
      go false false = refl

  gather_keeps : (e : Tree) (s : spec.Scope) → (gather_input_vars sheet parents e s).locals ≡ s.locals
  unfolding gather_input_vars
  gather_keeps e s = steps_keep (input_var sheet parents) input_keeps (vars (traverse e)) s

module _ (t outer : List ℕ) where
  pub read : (row : ℕ) (rest : Bool) (k s₀ s₁ : Scope) (l m : List ℕ)
      → InputWalk t outer row rest k s₀ → LoopWalk t outer row rest s₀ l s₁ m → ReadWalk t outer row rest k l s₁ m
  unfolding gather_read
  read row rest k s₀ s₁ l m h₀ h₁ parents o s a =
      let keeps : s.locals ≡ (gather_input_vars (sheet_at t) parents (expr_by t rest row) s).locals = sym (gather_keeps (sheet_at t) parents (expr_by t rest row) s) in
      h₁ parents o _ (record {
        sets = h₀ parents o s a.sets;
        placed = subst (λ (ls : List spec.Span). (x : ℕ) (p : spec.Span) → spec.span_in ls x ≡ some p → SpanWord (get_or l x 0) p) keeps a.placed;
      })

  -- ---- the ways out of `gather_bound`

  module _ (ok : Accepted t) where
    pub bound-none : (row : ℕ) → row ≡ 0 → (rest shadow : Bool) (k : Scope) (l : List ℕ) → BoundWalk t outer row rest shadow k l k l
    unfolding gather_assigned_vars leaves
    bound-none row z rest shadow k l parents o s a = rw (z, none_is t ok rest) a

    module _ (row : ℕ) (some : row ≡ 0 → ⊥) (high : row ≤ expr_count t) (rest shadow : Bool) (w : Row) (is : w ≡ row_at t row) where
      pub bound_assign : (found : Bool) → found ≡ is_assign w → found ≡ true → (shadows : Bool) → shadows ≡ is_col_eq w → (k s₀ s₁ : Scope) (l l₀ l₁ : List ℕ)
          → AssignWalk t outer w.first true shadows k l s₀ l₀ → AssignWalk t outer w.second true false s₀ l₀ s₁ l₁
          → BoundWalk t outer row rest shadow k l s₁ l₁
      bound_assign found e p shadows q k s₀ s₁ l l₀ l₁ h₀ h₁ parents o s a =
          rw (row_is t ok row some high rest, first-is t ok row some high rest, second_is t ok row some high rest, sym is, sym e, p, sym q) (h₁ parents o _ (h₀ parents o s a))

      pub bound-other : (found : Bool) → found ≡ is_assign w → found ≡ false → (k s₀ : Scope) (l l₀ : List ℕ)
          → AssignWalk t outer row rest shadow k l s₀ l₀ → BoundWalk t outer row rest shadow k l s₀ l₀
      bound-other found e p k s₀ l l₀ h parents o s a = rw (row_is t ok row some high rest, sym is, sym e, p) (h parents o s a)

  pub bound_and_read : (row : ℕ) (rest shadow : Bool) (k s₀ s₁ : Scope) (l l₀ l₁ : List ℕ)
      → BoundWalk t outer row rest shadow k l s₀ l₀ → ReadWalk t outer row rest s₀ l₀ s₁ l₁ → VarsWalk t outer row rest shadow k l s₁ l₁
  unfolding gather_vars
  bound_and_read row rest shadow k s₀ s₁ l l₀ l₁ h₀ h₁ parents o s a = h₁ parents o _ (h₀ parents o s a)
