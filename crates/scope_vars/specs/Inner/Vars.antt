-- An expression that is read, and one whose variables are bound.
use Rattle.std.specs.Prelude.{Bool, false, cond, List, ℕ}
use Rattle.sheet.specs.Kinds.{is_assign, is_col_eq}
use Rattle.scope.specs.Trees.{Tree, row_of, first_of, second_of}
use Rattle.scope.specs.Scopes as spec
use Rattle.scope.specs.Gather.{gather_assigned_vars, gather_read, gather_vars}
use Rattle.scope_state.specs.declared.Scope.{Scope}
use Rattle.scope_walk.specs.Inner.Sheets.{sheet_at}
use Rattle.scope_state.specs.Inner.Spans.{Steps}
use Rattle.scope_walk.specs.Inner.Exprs.{expr_by}

module _ (t outer : List ℕ) where
  -- The expression at a row, with the rest of its chain if `rest`.
  abbrev pub ReadWalk : ℕ → Bool → Scope → List ℕ → Scope → List ℕ → Type 0
  ReadWalk row rest = Steps outer (λ parents s. gather_read (sheet_at t) parents s (expr_by t rest row))

  -- ---- binding

  -- What `gather_vars` binds, before it reads.
  abbrev bound : List spec.Scope → Bool → spec.Scope → Tree → spec.Scope
  bound parents shadow s e =
      cond (is_assign (row_of e))
      (gather_assigned_vars (sheet_at t) parents false (second_of e) (gather_assigned_vars (sheet_at t) parents (is_col_eq (row_of e)) (first_of e) s))
      (gather_assigned_vars (sheet_at t) parents shadow e s)

  abbrev pub BoundWalk : ℕ → Bool → Bool → Scope → List ℕ → Scope → List ℕ → Type 0
  BoundWalk row rest shadow = Steps outer (λ parents s. bound parents shadow s (expr_by t rest row))

  abbrev pub VarsWalk : ℕ → Bool → Bool → Scope → List ℕ → Scope → List ℕ → Type 0
  VarsWalk row rest shadow = Steps outer (λ parents s. gather_vars (sheet_at t) parents shadow s (expr_by t rest row))
