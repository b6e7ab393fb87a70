-- Laws of `Loops`.
use mathlib.Core.Path.{◌≡◌, refl, sym, ap, ◌∙◌, subst}
use mathlib.Core.Bool.{Bool, true, false, cond, ◌||◌}
use mathlib.Core.List.{List, [], ◌∷◌, foldl}
use native.Mathlib.Omega.{arith}
use Prim.Native.Nat.{ℕ, ◌≤◌}
use lib.Dec.{eqb}
use lib.ListN.{length}
use borrow.Author.Tests.{eq-eqb, ne_eqb}
use Rattle.sheet.specs.declared.Row.{Row}
use Rattle.sheet.specs.declared.kinds.Kind.{Kind}
use Rattle.sheet.specs.Inner.Kinds.{KindNumbered}
use Rattle.base.specs.Lists.{is_some}
use Rattle.base.proofs.Laws.Truth.{not-both, or_left, or_right}
use Rattle.sheet.specs.Sheet.{Sheet, is_input, is_special}
use Rattle.sheet.specs.Inner.Sheet.{row_at}
use Rattle.sheet.specs.Kinds.{is_var, is_ref_brack}
use Rattle.scope.specs.Trees.{Tree}
use Rattle.scope.specs.Traverse.{leaves, vars}
use Rattle.scope.specs.Scopes as spec
use Rattle.scope.specs.Scopes.{add_unscoped, add_input, use_input, var_exists}
use Rattle.scope.specs.Gather.{assign_var, gather_assigned_vars, loop_var, gather_loop_vars}
use Rattle.scope_walk.specs.declared.Kids.{Kids}
use Rattle.scope_walk.specs.Inner.Kids.{kids_of}
use Rattle.scope_walk.proofs.Laws.Arms.{KidsTurn, Quiet, no_such_kinds}
use Rattle.scope_walk.proofs.Laws.Walks.{alone_at}
use Rattle.scope_walk.specs.Inner.Walks.{over_by}
use Rattle.scope_state.specs.declared.Scope.{Scope}
use Rattle.scope_walk.specs.Inner.Sheets.{counts_at, special_at, sheet_at, Accepted, expr_count}
use Rattle.scope_state.specs.Inner.Agrees.{WithFlag}
use Rattle.scope_state.specs.Inner.Spans.{Agrees}
use Rattle.scope_state.proofs.Laws.Agrees.{with-flag}
use Rattle.scope_state.proofs.Laws.Spans.{agrees-flag}
use Rattle.scope_walk.specs.Inner.Exprs.{expr_by}
use Rattle.scope_walk.proofs.Laws.Walking as walking
use Rattle.scope_walk.specs.Inner.Walking.{Walk}
use Rattle.scope_vars.specs.Inner.Assigned.{AssignWalk}
use Rattle.scope_vars.specs.Inner.Loops.{scope_of_words, LoopStep, step_at, LoopWalk, IndexWalkIn, LoopStepIn}

-- ---- a pattern that does not shadow keeps the locals

-- Steps that each keep the locals keep them.
pub steps_keep : (f : spec.Scope → Row → spec.Scope) → ((s : spec.Scope) (w : Row) → (f s w).locals ≡ s.locals)
    → (rows : List Row) (s : spec.Scope) → (foldl f s rows).locals ≡ s.locals
steps_keep f keeps [] s = refl
steps_keep f keeps (w ∷ rows) s = steps_keep f keeps rows (f s w) ∙ keeps s w

module _ (sheet : Sheet) (parents : List spec.Scope) where
  var_keeps : (s : spec.Scope) (w : Row) → (assign_var sheet parents false s w).locals ≡ s.locals
  unfolding assign_var add_input add_unscoped use_input
  var_keeps s w = go (is_special sheet w.name) (var_exists parents w)
    where
      go : (a b : Bool) → (cond a (use_input (is_input sheet w.name) s) (cond b (add_input s w.name) (add_unscoped s w.name))).locals ≡ s.locals
      go true b = refl
      go false true = refl
      go false false = refl

  assigned_keeps : (e : Tree) (s : spec.Scope) → (gather_assigned_vars sheet parents false e s).locals ≡ s.locals
  unfolding gather_assigned_vars
  assigned_keeps e s = steps_keep (assign_var sheet parents false) var_keeps (vars (leaves e)) s

module _ (t outer : List ℕ) where
  -- So the scope that it hands back may have the locals that there were.
  pub with-locals : (row : ℕ) (rest : Bool) (o u i : List ℕ) (f : Bool) (l : List ℕ) (r : Scope) (m : List ℕ)
      → AssignWalk t outer row rest false (scope_of_words o u i f) l r m
      → AssignWalk t outer row rest false (scope_of_words o u i f) l (scope_of_words o r.unscoped.words r.inputs.words r.uses) m
  with-locals row rest o u i f l r m h parents out s a =
      let b = h parents out s a in
      record {
        sets = record {
          locals = λ x. ap (λ (ls : List spec.Span). is_some (spec.span_in ls x)) (assigned_keeps (sheet_at t) parents (expr_by t rest row) s) ∙ a.sets.locals x;
          unscoped = b.sets.unscoped;
          inputs = b.sets.inputs;
          flag = b.sets.flag;
        };
        placed = b.placed;
      }

  -- ---- the ways out of `loop_step`

  module _ (w : Row) (k : Scope) (l : List ℕ) where
    pub step_brack : w.kind ≡ 16 → (r : Scope) (m : List ℕ) → AssignWalk t outer w.second true false k l r m → LoopStep t outer w k l r m
    step_brack e r m h parents o s a = rw (eq-eqb w.kind 16 e) (h parents o s a)

    module _ (other : w.kind ≡ 16 → ⊥) where
      pub loop_step_var : w.kind ≡ 6 → (b : Bool) → b ≡ is_input (sheet_at t) w.name → (r : Scope) → WithFlag k b r → LoopStep t outer w k l r l
      loop_step_var e b is r put parents o s a = rw (ne_eqb w.kind 16 other, eq-eqb w.kind 6 e, sym is) (agrees-flag k l r s a b put)

      pub loop_step_other : (w.kind ≡ 6 → ⊥) → LoopStep t outer w k l k l
      unfolding use_input
      loop_step_other ne parents o s a = rw (ne_eqb w.kind 16 other, ne_eqb w.kind 6 ne) a

  -- ---- the walk, a row at a time

  as_walk : (parents : List spec.Scope) (rest : Bool) (s : spec.Scope) (row : ℕ)
      → gather_loop_vars (sheet_at t) parents (expr_by t rest row) s ≡ over_by (counts_at t) (special_at t) t (loop_var (sheet_at t) parents) rest s row
  unfolding gather_loop_vars sheet_at
  as_walk parents true s row = refl
  as_walk parents false s row = refl

  as_step : (parents : List spec.Scope) (s : spec.Scope) (row : ℕ)
      → loop_var (sheet_at t) parents s (alone_at (counts_at t) (special_at t) t row) ≡ step_at t outer parents s (row_at t row)
  unfolding loop_var sheet_at
  as_step parents s row = refl

  -- A scope and the words of its locals stand for the definitions' scope.
  abbrev Stands : Scope × List ℕ → spec.Scope → Type 0
  Stands k = Agrees k.0 k.1

  pub loop_walk_none : Accepted t → (rest : Bool) (k : Scope) (l : List ℕ) → LoopWalk t outer 0 rest k l k l
  loop_walk_none ok rest k l parents o s a =
      subst (Agrees k l) (sym (as_walk parents rest s 0)) (walking.walk_none t Stands (loop_var (sheet_at t) parents) ok 0 refl rest (k, l) s a)

  -- A row's turn: the row that was read, its parts and the row after it, as the code has them.
  pub loop_walk_turn : Accepted t → (row : ℕ) → (row ≡ 0 → ⊥) → row ≤ expr_count t → (rest : Bool) (w : Row) → w ≡ row_at t row
      → (p : Kids) → p ≡ kids_of w → (next : ℕ) → next ≡ cond rest w.next 0 → (k s₀ s₁ s₂ s₃ s₄ : Scope) (l l₀ l₁ l₂ l₃ l₄ : List ℕ)
      → LoopStep t outer w k l s₀ l₀ → LoopWalk t outer p.first true s₀ l₀ s₁ l₁ → LoopWalk t outer p.second true s₁ l₁ s₂ l₂ → LoopWalk t outer p.third true s₂ l₂ s₃ l₃
      → LoopWalk t outer next true s₃ l₃ s₄ l₄ → LoopWalk t outer row rest k l s₄ l₄
  loop_walk_turn ok row some high rest w is p ps next ns k s₀ s₁ s₂ s₃ s₄ l l₀ l₁ l₂ l₃ l₄ h₀ h₁ h₂ h₃ h₄ parents o s a =
      let part : (v : ℕ) (x y : Scope × List ℕ) → LoopWalk t outer v true x.0 x.1 y.0 y.1 → Walk t Stands (loop_var (sheet_at t) parents) v true x y =
      λ v x y h u b. subst (Stands y) (as_walk parents true u v) (h parents o u b) in
      subst (Agrees s₄ l₄) (sym (as_walk parents rest s row))
      (walking.walk_turn t Stands (loop_var (sheet_at t) parents) ok (step_at t outer parents) (as_step parents)
      row some high rest w is p ps next ns (k, l) (s₀, l₀) (s₁, l₁) (s₂, l₂) (s₃, l₃) (s₄, l₄) (h₀ parents o)
      (part p.first (s₀, l₀) (s₁, l₁) h₁) (part p.second (s₁, l₁) (s₂, l₂) h₂) (part p.third (s₂, l₂) (s₃, l₃) h₃)
      (part next (s₃, l₃) (s₄, l₄) h₄) s a)

-- ---- what is done at a row, on the flag, the unscoped names, the inputs and the spans

abbrev pub LoopState : Type 0
LoopState = Bool × List ℕ × List ℕ × List ℕ

abbrev LoopDone : List ℕ → List ℕ → List ℕ → Row → LoopState → LoopState → Type 0
LoopDone t outer o w a b = LoopStepIn t outer w o a.1 a.2 a.0 a.3 b.1 b.2 b.0 b.3 × (length b.3 ≡ length a.3)

abbrev pub LoopTurn : List ℕ → List ℕ → List ℕ → Row → LoopState → LoopState → Kids → Type 0
LoopTurn t outer o w = KidsTurn (LoopDone t outer o w) w

-- At a Var and at a RefBrack something is done.
abbrev pub loop_number : ℕ → Bool
loop_number n = eqb n 6 || eqb n 16

module _ (t outer o : List ℕ) (w : Row) (a : LoopState) where
  loop_done_still : (is_var w || is_ref_brack w) ≡ false → LoopDone t outer o w a a
  loop_done_still other = (
    record {
      unscoped-long = refl;
      inputs_long = refl;
      done = loop_step_other t outer w _ _ (λ e. not-both (or_right (is_var w) _ (eq-eqb w.kind 16 e)) other)
          (λ e. not-both (or_left _ (is_ref_brack w) (eq-eqb w.kind 6 e)) other);
    },
    refl,
  )

  pub loop_still : (kind : Kind) → KindNumbered w.kind kind → Quiet (LoopDone t outer o w) w loop_number kind a
  loop_still kind is =
      record { numbered = is; past = no_such_kinds w 6 16 (omega arith) (omega arith) (omega arith) (omega arith); still = loop_done_still }

  pub loop_at_var : w.kind ≡ 6 → (f : Bool) → f ≡ (is_input (sheet_at t) w.name || a.0)
      → LoopStepIn t outer w o a.1 a.2 a.0 a.3 a.1 a.2 f a.3 × (length a.3 ≡ length a.3)
  loop_at_var e f is = (
    record {
      unscoped-long = refl;
      inputs_long = refl;
      done = loop_step_var t outer w _ _ (λ k. not-both (eq-eqb w.kind 16 k) (ap (λ (n : ℕ). eqb n 16) e)) e _ refl _ (with-flag (scope_of_words o a.1 a.2 a.0) _ _ is);
    },
    refl,
  )

  pub loop_at_brack : w.kind ≡ 16 → (b : LoopState) → IndexWalkIn t outer w.second o a.1 a.2 a.0 a.3 b.1 b.2 b.0 b.3
      → length b.3 ≡ length a.3 → LoopStepIn t outer w o a.1 a.2 a.0 a.3 b.1 b.2 b.0 b.3 × (length b.3 ≡ length a.3)
  loop_at_brack e b did long =
      (record { unscoped-long = did.unscoped-long; inputs_long = did.inputs_long; done = step_brack t outer w _ _ e _ _ did.done }, long)
