-- The walk that gathers the variables of indexes, step by step.
use Rattle.std.specs.Prelude.{◌≡◌, Bool, true, false, cond, ◌&&◌, List, ℕ, length}
use Rattle.sheet.specs.declared.Row.{Row}
use Rattle.sheet.specs.Sheet.{is_input}
use Rattle.sheet.specs.Kinds.{is_var, is_ref_brack}
use Rattle.scope.specs.Trees.{tree_at}
use Rattle.scope.specs.Scopes as spec
use Rattle.scope.specs.Scopes.{use_input}
use Rattle.scope.specs.Gather.{gather_assigned_vars, gather_loop_vars}
use Rattle.scope_state.specs.declared.Scope.{Scope}
use Rattle.scope_walk.specs.Inner.Sheets.{sheet_at}
use Rattle.scope_state.specs.Inner.Agrees.{scope_of}
use Rattle.scope_state.specs.Inner.Spans.{Steps}
use Rattle.scope_walk.specs.Inner.Exprs.{expr_by}
use Rattle.scope_vars.specs.Inner.Assigned.{AssignWalk}

-- The scope with these words, as a value.
abbrev pub scope_of_words : List ℕ → List ℕ → List ℕ → Bool → Scope
scope_of_words o u i f = scope_of (record { words = o }) u i f

-- What is done to a scope is done to its parts in lent words: the locals stay, and the sets that change have as many words as before.
pub record LoopParts (does : Scope → List ℕ → Scope → List ℕ → Type 0) (o u i : List ℕ) (f : Bool) (l v j : List ℕ) (g : Bool) (m : List ℕ) : Type 0 where
  pub unscoped-long : length v ≡ length u
  pub inputs_long : length j ≡ length i
  pub done : does (scope_of_words o u i f) l (scope_of_words o v j g) m

module _ (t outer : List ℕ) where
  abbrev pub step_at : List spec.Scope → spec.Scope → Row → spec.Scope
  step_at parents s w =
      cond (is_ref_brack w) (gather_assigned_vars (sheet_at t) parents false (tree_at (sheet_at t) w.second) s)
      (use_input (is_var w && is_input (sheet_at t) w.name) s)

  abbrev pub LoopStep : Row → Scope → List ℕ → Scope → List ℕ → Type 0
  LoopStep w = Steps outer (λ parents s. step_at parents s w)

  -- The expression at a row, with the rest of its chain if `rest`.
  abbrev pub LoopWalk : ℕ → Bool → Scope → List ℕ → Scope → List ℕ → Type 0
  LoopWalk row rest = Steps outer (λ parents s. gather_loop_vars (sheet_at t) parents (expr_by t rest row) s)

  -- ---- the same of a scope's parts in lent words

  abbrev pub IndexWalkIn : ℕ → List ℕ → List ℕ → List ℕ → Bool → List ℕ → List ℕ → List ℕ → Bool → List ℕ → Type 0
  IndexWalkIn row = LoopParts (AssignWalk t outer row true false)

  abbrev pub LoopStepIn : Row → List ℕ → List ℕ → List ℕ → Bool → List ℕ → List ℕ → List ℕ → Bool → List ℕ → Type 0
  LoopStepIn w = LoopParts (LoopStep w)

  abbrev pub LoopWalkIn : ℕ → Bool → List ℕ → List ℕ → List ℕ → Bool → List ℕ → List ℕ → List ℕ → Bool → List ℕ → Type 0
  LoopWalkIn row rest = LoopParts (LoopWalk row rest)
