-- What a statement adds to its query's scope, step by step.
use Rattle.std.specs.Prelude.{List, ℕ, ◌≤◌, length}
use Rattle.sheet.specs.declared.Statement.{Statement}
use Rattle.scope.specs.Trees.{tree_at, chain}
use Rattle.scope.specs.Statements.{literal_of}
use Rattle.scope.specs.Gather.{gather_expr, gather_literal, gather_stmt}
use Rattle.scope_state.specs.declared.Scope.{Scope}
use Rattle.scope_walk.specs.Inner.Sheets.{sheet_at, Accepted, expr_count, statement_count}
use Rattle.scope_state.specs.Inner.Spans.{Steps}
use Rattle.base.specs.Limits as limits

-- The rows that a statement names are rows.
pub record NamedParts (t : List ℕ) (st : Statement) : Type 0 where
  pub first : st.first ≤ expr_count t
  pub second : st.second ≤ expr_count t
  pub third : st.third ≤ expr_count t
  pub with : st.with ≤ expr_count t

module _ (t outer : List ℕ) where
  abbrev pub ExprStep : ℕ → Scope → List ℕ → Scope → List ℕ → Type 0
  ExprStep row = Steps outer (λ parents s. gather_expr (sheet_at t) parents s (tree_at (sheet_at t) row))

  abbrev pub LiteralStep : Statement → Scope → List ℕ → Scope → List ℕ → Type 0
  LiteralStep st = Steps outer (λ parents s. gather_literal (sheet_at t) parents s (literal_of (sheet_at t) st))

  abbrev pub StmtStep : Statement → Scope → List ℕ → Scope → List ℕ → Type 0
  StmtStep st = Steps outer
      (λ parents s. gather_stmt (sheet_at t) parents s (record { literal = literal_of (sheet_at t) st; with_mods = chain (tree_at (sheet_at t) st.with) }))

module _ (t outer : List ℕ) where
  -- A statement that was read.
  pub record AsksStmt (st : Statement) (spans : List ℕ) : Type 0 where
    pub accepted : Accepted t
    pub outer-room : limits.per_name ≤ length outer
    pub named : NamedParts t st
    pub spans-room : limits.per_name ≤ length spans

  -- A walk over the statements from a row on.
  pub record AsksStmtWalk (row : ℕ) (spans : List ℕ) : Type 0 where
    pub accepted : Accepted t
    pub outer-room : limits.per_name ≤ length outer
    pub row_in : row ≤ statement_count t
    pub spans-room : limits.per_name ≤ length spans
