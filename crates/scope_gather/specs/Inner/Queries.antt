-- The statements of a query, row by row, and its scope.
use mathlib.Core.List.{List, ◌++◌, foldl}
use Rattle.std.specs.Prelude.{ℕ, ◌≤◌, length}
use Rattle.scope.specs.Statements.{Stmt, stmts_from, stmts_of}
use Rattle.scope.specs.Scopes as spec
use Rattle.scope.specs.Gather.{gather_stmt, gather_local_vars}
use Rattle.scope_walk.specs.Inner.Onwards.{rows_left}
use Rattle.scope_state.specs.declared.Scope.{Scope}
use Rattle.scope_walk.specs.Inner.Sheets.{sheet_at, Accepted, expr_count, query_count, statement_count}
use Rattle.scope_state.specs.Inner.Outers.{Outer}
use Rattle.scope_state.specs.Inner.Spans.{Agrees, Steps}
use Rattle.scope_state.specs.Inner.Chains.{chain_at}
use Rattle.base.specs.Limits as limits

module _ (t : List ℕ) where
  abbrev pub stmts_at_row : ℕ → List Stmt
  stmts_at_row row = stmts_from (sheet_at t) (length (sheet_at t).statements) row

  abbrev pub stmts_left : ℕ → ℕ
  stmts_left row = rows_left (statement_count t) row

  module _ (outer : List ℕ) where
    abbrev pub StmtsStep : ℕ → Scope → List ℕ → Scope → List ℕ → Type 0
    StmtsStep row = Steps outer (λ parents s. foldl (gather_stmt (sheet_at t) parents) s (stmts_at_row row))

    -- ---- a query's scope

    -- The outputs are the chains at two rows.
    abbrev pub Gathered : ℕ → ℕ → ℕ → Scope → List ℕ → Type 0
    Gathered q key value r m = (parents : List spec.Scope) → Outer outer parents
        → Agrees r m (gather_local_vars (sheet_at t) parents (stmts_of (sheet_at t) q) (chain_at t key ++ chain_at t value))

module _ (t outer : List ℕ) where
  -- `gather_local_vars`: a query with its outputs.
  pub record AsksLocals (query key value : ℕ) (spans : List ℕ) : Type 0 where
    pub accepted : Accepted t
    pub outer-room : limits.per_name ≤ length outer
    pub from : 1 ≤ query
    pub to : query ≤ query_count t
    pub key_in : key ≤ expr_count t
    pub value_in : value ≤ expr_count t
    pub spans-room : limits.per_name ≤ length spans
