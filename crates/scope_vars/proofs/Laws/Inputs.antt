-- Laws of `Inputs`.
use mathlib.Core.Path.{◌≡◌, refl, sym, subst}
use mathlib.Core.Bool.{Bool, true, false, cond}
use mathlib.Core.List.{List, [], ◌∷◌, ◌++◌, foldl}
use Prim.Native.Nat.{ℕ, ◌≤◌}
use borrow.Author.Tests.{eq-eqb, ne_eqb}
use Rattle.base.specs.Sets.{member}
use Rattle.base.proofs.Laws.Truth.{not-both}
use Rattle.sheet.specs.declared.Row.{Row}
use Rattle.sheet.specs.declared.kinds.Kind.{Kind}
use Rattle.sheet.specs.Inner.Kinds.{KindNumbered}
use Rattle.sheet.specs.Sheet.{Sheet, is_input}
use Rattle.sheet.specs.Inner.Sheet.{row_at}
use Rattle.sheet.specs.Kinds.{is_var}
use Rattle.scope.specs.Trees.{Tree, row_of, tree_at}
use Rattle.scope.specs.Traverse.{traverse, vars}
use Rattle.scope.specs.Scopes as spec
use Rattle.scope.specs.Gather.{input_var, gather_input_vars}
use Rattle.scope_walk.specs.declared.Kids.{Kids}
use Rattle.scope_walk.specs.Inner.Kids.{kids_of}
use Rattle.scope_walk.proofs.Laws.Arms.{KidsTurn, Quiet, var_number, quiet_but_vars}
use Rattle.scope_walk.specs.Inner.Walks.{alone, over_by}
use Rattle.scope_state.specs.declared.Scope.{Scope}
use Rattle.scope_walk.specs.Inner.Sheets.{counts_at, special_at, sheet_at, Accepted, expr_count}
use Rattle.scope_state.specs.Inner.Agrees.{Sets, WithInput, WithFlag}
use Rattle.scope_state.specs.Inner.Outers.{Exists}
use Rattle.scope_walk.specs.Inner.Exprs.{expr_by}
use Rattle.scope_walk.proofs.Laws.Walking as walking
use Rattle.scope_walk.specs.Inner.Walking.{Walk}
use Rattle.scope_vars.specs.Inner.Inputs.{InputVar, InputStep, InputWalk, InputVarIn, InputStepIn}

-- The definitions' step at any expression.
abbrev pub input_at : Sheet → List spec.Scope → spec.Scope → Tree → spec.Scope
input_at sheet parents s e = cond (is_var (row_of e)) (input_var sheet parents s (row_of e)) s

-- A walk over the variables is a walk over the expressions.
pub fold-vars : {S : Type 0} (f : S → Row → S) (s : S) (ts : List Tree)
    → foldl f s (vars ts) ≡ foldl (λ (u : S) (e : Tree). cond (is_var (row_of e)) (f u (row_of e)) u) s ts
fold-vars f s [] = refl
fold-vars f s (e ∷ ts) = go (is_var (row_of e)) (fold-vars f (f s (row_of e)) ts) (fold-vars f s ts)
  where
    go : (b : Bool) → foldl f (f s (row_of e)) (vars ts) ≡ foldl (λ u e. cond (is_var (row_of e)) (f u (row_of e)) u) (f s (row_of e)) ts
        → foldl f s (vars ts) ≡ foldl (λ u e. cond (is_var (row_of e)) (f u (row_of e)) u) s ts
        → foldl f s (cond b (row_of e ∷ []) [] ++ vars ts)
        ≡ foldl (λ u e. cond (is_var (row_of e)) (f u (row_of e)) u) (cond b (f s (row_of e)) s) ts
    go true h k = h
    go false h k = k

module _ (t outer : List ℕ) where
  -- ---- the ways out of `input_var`

  module _ (w : Row) (k : Scope) where
    pub var-is_input : is_input (sheet_at t) w.name ≡ true → (r : Scope) → WithFlag k true r → InputVar t outer w k r
    unfolding input_var
    var-is_input p r put parents o s a = rw p (put s a)

    module _ (other : is_input (sheet_at t) w.name ≡ false) where
      pub var-unscoped : member k.unscoped.words w.name ≡ true → InputVar t outer w k k
      unfolding input_var
      var-unscoped p parents o s a = rw (other, a.unscoped w.name, p) a

      module _ (free : member k.unscoped.words w.name ≡ false) (found : Bool) (exists : Exists outer w found) where
        pub var-nowhere : found ≡ false → InputVar t outer w k k
        unfolding input_var
        var-nowhere p parents o s a = rw (other, a.unscoped w.name, free, sym (exists parents o), p) a

        pub var-found : found ≡ true → (r : Scope) → WithInput k w.name r → InputVar t outer w k r
        unfolding input_var
        var-found p r put parents o s a = rw (other, a.unscoped w.name, free, sym (exists parents o), p) (put s a)

    -- ---- and of `input_step`

    pub input_step_var : w.kind ≡ 6 → (r : Scope) → InputVar t outer w k r → InputStep t outer w k r
    input_step_var e r h parents o s a = rw (eq-eqb w.kind 6 e) (h parents o s a)

    pub input_step_other : (w.kind ≡ 6 → ⊥) → InputStep t outer w k k
    input_step_other ne parents o s a = rw (ne_eqb w.kind 6 ne) a

  -- ---- the walk, a row at a time

  -- The gathering of the definitions is a walk over all expressions.
  as_walk : (parents : List spec.Scope) (rest : Bool) (s : spec.Scope) (row : ℕ)
      → gather_input_vars (sheet_at t) parents (expr_by t rest row) s ≡ over_by (counts_at t) (special_at t) t (input_at (sheet_at t) parents) rest s row
  unfolding gather_input_vars sheet_at
  as_walk parents true s row = fold-vars (input_var (sheet_at t) parents) s (traverse (tree_at (sheet_at t) row))
  as_walk parents false s row = fold-vars (input_var (sheet_at t) parents) s (traverse (alone (tree_at (sheet_at t) row)))

  pub input_walk_none : Accepted t → (rest : Bool) (k : Scope) → InputWalk t outer 0 rest k k
  input_walk_none ok rest k parents o s a =
      subst (Sets k) (sym (as_walk parents rest s 0)) (walking.walk_none t Sets (input_at (sheet_at t) parents) ok 0 refl rest k s a)

  -- A row's turn: the row that was read, its parts and the row after it, as the code has them.
  pub input_walk_turn : Accepted t → (row : ℕ) → (row ≡ 0 → ⊥) → row ≤ expr_count t → (rest : Bool) (w : Row) → w ≡ row_at t row
      → (p : Kids) → p ≡ kids_of w → (next : ℕ) → next ≡ cond rest w.next 0 → (k s₀ s₁ s₂ s₃ s₄ : Scope)
      → InputStep t outer w k s₀ → InputWalk t outer p.first true s₀ s₁ → InputWalk t outer p.second true s₁ s₂ → InputWalk t outer p.third true s₂ s₃
      → InputWalk t outer next true s₃ s₄ → InputWalk t outer row rest k s₄
  input_walk_turn ok row some high rest w is p ps next ns k s₀ s₁ s₂ s₃ s₄ h₀ h₁ h₂ h₃ h₄ parents o s a =
      let part : (v : ℕ) (x y : Scope) → InputWalk t outer v true x y → Walk t Sets (input_at (sheet_at t) parents) v true x y =
      λ v x y h u b. subst (Sets y) (as_walk parents true u v) (h parents o u b) in
      subst (Sets s₄) (sym (as_walk parents rest s row))
      (walking.walk_turn t Sets (input_at (sheet_at t) parents) ok (λ u v. cond (is_var v) (input_var (sheet_at t) parents u v) u) (λ u v. refl)
      row some high rest w is p ps next ns k s₀ s₁ s₂ s₃ s₄ (h₀ parents o)
      (part p.first s₀ s₁ h₁) (part p.second s₁ s₂ h₂) (part p.third s₂ s₃ h₃) (part next s₃ s₄ h₄) s a)

-- ---- what is done at a row, on the flag and the inputs

abbrev InputDone : List ℕ → List ℕ → Row → List ℕ → List ℕ × Bool → List ℕ × Bool → Type 0
InputDone t outer w u a b = InputStepIn t outer w u a.0 a.1 b.0 b.1

abbrev pub InputTurn : List ℕ → List ℕ → Row → List ℕ → List ℕ × Bool → List ℕ × Bool → Kids → Type 0
InputTurn t outer w u = KidsTurn (InputDone t outer w u) w

module _ (t outer : List ℕ) (w : Row) (u i : List ℕ) (f : Bool) where
  pub input_still : (kind : Kind) → KindNumbered w.kind kind → Quiet (InputDone t outer w u) w var_number kind (i, f)
  input_still kind is =
      quiet_but_vars is (λ other. record { long = refl; done = λ l. input_step_other t outer w _ (λ e. not-both (eq-eqb w.kind 6 e) other) })

  pub input_at-var : w.kind ≡ 6 → (j : List ℕ) (g : Bool) → InputVarIn t outer w u i f j g → InputStepIn t outer w u i f j g
  input_at-var e j g did = record { long = did.long; done = λ l. input_step_var t outer w _ e _ (did.done l) }
