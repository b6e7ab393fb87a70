-- The walk over the leaves of a pattern, step by step.
use Rattle.std.specs.Prelude.{Bool, List, ℕ}
use Rattle.sheet.specs.declared.Row.{Row}
use Rattle.scope.specs.Gather.{assign_var, gather_assigned_vars}
use Rattle.scope_state.specs.declared.Scope.{Scope}
use Rattle.scope_walk.specs.Inner.Sheets.{sheet_at}
use Rattle.scope_state.specs.Inner.Spans.{Steps}
use Rattle.scope_walk.specs.Inner.Exprs.{expr_by}

module _ (t outer : List ℕ) where
  abbrev pub AssignVar : Row → Bool → Scope → List ℕ → Scope → List ℕ → Type 0
  AssignVar w shadow = Steps outer (λ parents s. assign_var (sheet_at t) parents shadow s w)

  -- The pattern at a row, with the rest of its chain if `rest`.
  abbrev pub AssignWalk : ℕ → Bool → Bool → Scope → List ℕ → Scope → List ℕ → Type 0
  AssignWalk row rest shadow = Steps outer (λ parents s. gather_assigned_vars (sheet_at t) parents shadow (expr_by t rest row) s)
