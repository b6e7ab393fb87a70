-- Laws of `Statements`.
use mathlib.Core.Path.{◌≡◌, refl, sym, subst}
use mathlib.Core.Bool.{Bool, true, false}
use mathlib.Core.List.{List}
use mathlib.Core.Logic.{◌⊎◌, inl, inr}
use Prim.Native.Nat.{ℕ, ◌≤◌}
use borrow.Author.Tests.{ne_eqb}
use Rattle.base.proofs.Laws.Truth.{eq_cases}
use Rattle.sheet.specs.declared.Statement.{Statement}
use Rattle.sheet.specs.declared.kinds.Form.{Form}
use Rattle.sheet.specs.declared.kinds.Form.TheVariants as form
use Rattle.sheet.specs.Inner.Kinds.{FormNumbered, NoArm}
use Rattle.sheet.specs.declared.Row.{Row}
use Rattle.sheet.specs.Inner.Sheet.{row_at}
use Rattle.sheet.specs.Kinds.{is_assign}
use Rattle.scope.specs.Trees.{nil, tree_at}
use Rattle.scope.specs.Traverse.{traverse, leaves}
use Rattle.scope.specs.Paths.{get_extra_arg}
use Rattle.scope.specs.Statements.{literal_of}
use Rattle.scope.specs.Scopes as spec
use Rattle.scope.specs.Gather.{gather_assigned_vars, gather_input_vars, gather_loop_vars, gather_read, gather_vars, gather_extra_arg, gather_expr, gather_literal, gather_stmt}
use Rattle.scope_state.specs.declared.Scope.{Scope}
use Rattle.scope_walk.specs.Inner.Sheets.{sheet_at, Accepted, expr_count}
use Rattle.scope_state.specs.Inner.Spans.{Agrees}
use Rattle.scope_walk.specs.Inner.Exprs.{expr_by}
use Rattle.scope_walk.proofs.Laws.Exprs.{none_is, row_is}
use Rattle.scope_vars.specs.Inner.Vars.{ReadWalk, VarsWalk}
use Rattle.scope_state.specs.Inner.Chains.{ReadEach, VarsEach}
use Rattle.scope_gather.specs.Inner.Locals.{LocalsEach}
use Rattle.scope_paths.specs.Inner.Extra.{some_at, ExtraAt}
use Rattle.scope_gather.specs.Inner.Statements.{ExprStep, LiteralStep, StmtStep}

module _ (t outer : List ℕ) where
  -- ---- the ways out of `gather_expr`

  nothing_bound : (parents : List spec.Scope) (shadow : Bool) (s : spec.Scope) → gather_vars (sheet_at t) parents shadow s nil ≡ s
  unfolding gather_vars gather_read gather_assigned_vars gather_input_vars gather_loop_vars traverse leaves
  nothing_bound parents shadow s = refl

  extra_is : Accepted t → (parents : List spec.Scope) (x : ℕ) (u : spec.Scope)
      → gather_vars (sheet_at t) parents false u (expr_by t false x) ≡ gather_extra_arg (sheet_at t) parents (some_at t x) u
  extra_is ok parents x u = go (eq_cases x 0)
    where
      go : (x ≡ 0) ⊎ (x ≡ 0 → ⊥) → gather_vars (sheet_at t) parents false u (expr_by t false x) ≡ gather_extra_arg (sheet_at t) parents (some_at t x) u
      go (inl z) = rw (z, none_is t ok false) (nothing_bound parents false u)
      go (inr n) = rw (ne_eqb x 0 n)

  module _ (ok : Accepted t) (row : ℕ) where
    pub expr-none : row ≡ 0 → (k : Scope) (l : List ℕ) → ExprStep t outer row k l k l
    unfolding gather_expr get_extra_arg gather_read gather_input_vars gather_loop_vars traverse
    expr-none z k l parents o s a = rw (z, none_is t ok true) a

    module _ (there : row ≡ 0 → ⊥) (high : row ≤ expr_count t) (w : Row) (is : w ≡ row_at t row) (found : Bool) (test : found ≡ is_assign w) where
      pub expr_assign : found ≡ true → (k r : Scope) (l m : List ℕ) → VarsWalk t outer row true false k l r m → ExprStep t outer row k l r m
      unfolding gather_expr
      expr_assign p k r l m h parents o s a = rw (row_is t ok row there high true, sym is, sym test, p) (h parents o s a)

      pub expr-other : found ≡ false → (k s₀ s₁ : Scope) (l l₀ l₁ : List ℕ) → ReadWalk t outer row true k l s₀ l₀ → (x : ℕ) → ExtraAt t row x
          → VarsWalk t outer x false false s₀ l₀ s₁ l₁ → ExprStep t outer row k l s₁ l₁
      unfolding gather_expr
      expr-other p k s₀ s₁ l l₀ l₁ h₀ x e h₁ parents o s a =
          rw (row_is t ok row there high true, sym is, sym test, p, e.0)
          (subst (Agrees s₁ l₁) (extra_is ok parents x (gather_read (sheet_at t) parents s (tree_at (sheet_at t) row))) (h₁ parents o _ (h₀ parents o s a)))

  -- ---- and of `gather_literal`

  module _ (st : Statement) (k r : Scope) (l m : List ℕ) where
    pub of_vars : st.form ≡ 1 → LocalsEach t st.first k l r m → LiteralStep t outer st k l r m
    unfolding gather_literal literal_of
    of_vars e h parents o s a = rw e (h s a)

    pub of_in : st.form ≡ 2 → (s₀ s₁ : Scope) (l₀ l₁ : List ℕ) → VarsEach t outer st.first true k l s₀ l₀ → VarsEach t outer st.second true s₀ l₀ s₁ l₁
        → ReadWalk t outer st.third true s₁ l₁ r m → LiteralStep t outer st k l r m
    unfolding gather_literal literal_of
    of_in e s₀ s₁ l₀ l₁ h₀ h₁ h₂ parents o s a = rw e (h₂ parents o _ (h₁ parents o _ (h₀ parents o s a)))

    module _ {f : Form} (is : FormNumbered st.form f) where
      pub of_expr : (f ≡ form.Expr) ⊎ (f ≡ form.NotExpr) → ExprStep t outer st.first k l r m → LiteralStep t outer st k l r m
      unfolding gather_literal literal_of
      of_expr (inl e) h parents o s a = let n : st.form ≡ 3 = subst (FormNumbered st.form) e is in rw n (h parents o s a)
      of_expr (inr e) h parents o s a = let n : st.form ≡ 4 = subst (FormNumbered st.form) e is in rw n (h parents o s a)

      pub of_every : (f ≡ form.Every) ⊎ (f ≡ form.Unknown) → ReadWalk t outer st.third true k l r m → LiteralStep t outer st k l r m
      unfolding gather_literal literal_of
      of_every (inl e) h parents o s a = let n : st.form ≡ 5 = subst (FormNumbered st.form) e is in rw n (h parents o s a)
      of_every (inr e) h parents o s a =
          let n : NoArm 5 st.form = subst (FormNumbered st.form) e is in
          rw (ne_eqb st.form 1 n.0.0.0.0.1, ne_eqb st.form 2 n.0.0.0.1, ne_eqb st.form 3 n.0.0.1, ne_eqb st.form 4 n.0.1) (h parents o s a)

  pub of_stmt : (st : Statement) (k s₀ s₁ : Scope) (l l₀ l₁ : List ℕ) → ReadEach t outer st.with k l s₀ l₀ → LiteralStep t outer st s₀ l₀ s₁ l₁ → StmtStep t outer st k l s₁ l₁
  unfolding gather_stmt
  of_stmt st k s₀ s₁ l l₀ l₁ h₀ h₁ parents o s a = h₁ parents o _ (h₀ parents o s a)
