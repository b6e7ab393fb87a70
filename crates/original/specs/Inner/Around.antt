-- The scopes around a query, as its analysis sees them: those of the queries that it stands in, from the outer query on.
use Rattle.std.specs.Prelude.{◌≡◌, Bool, false, ℕ}
use mathlib.Core.List.{List, [], ◌∷◌, ◌++◌, foldl, Memᴰ}
use Rattle.std.proofs.Math.Option.{some}
use Rattle.base.specs.Lists.{concat_map}
use Rattle.sheet.specs.Sheet.{Sheet}
use Rattle.scope.specs.Trees.{Tree, row_of, chain, outputs_of}
use Rattle.scope.specs.Traverse.{vars, comprs}
use Rattle.scope.specs.Paths.{get_extra_arg}
use Rattle.scope.specs.Statements.{expr, every, Stmt, stmts_of}
use Rattle.scope.specs.Scopes.{elements, Scope, no_scope, add_local, add_unscoped, add_input, use_input}
use Rattle.scope.specs.Gather.{gather_assigned_vars, gather_local_vars}
use Rattle.definition.specs.Queries.{output_scope}
use Rattle.original.specs.Inner.Places.{stmt_comprs}

-- A scope that a query with these outputs has below these parents: as gathered, or later, with the flag set, with inputs that rose, with the
-- names of an extra argument. Its locals and its unscoped names alone count for the queries inside.
pub data ScopeOf (sheet : Sheet) (parents : List Scope) (q : ℕ) (outputs : List Tree) : Scope → Type 0 where
  gathered : ScopeOf sheet parents q outputs (gather_local_vars sheet parents (stmts_of sheet q) outputs)
  flagged : (sc : Scope) (b : Bool) → ScopeOf sheet parents q outputs sc → ScopeOf sheet parents q outputs (use_input b sc)
  risen : (sc : Scope) (x : ℕ) → ScopeOf sheet parents q outputs sc → ScopeOf sheet parents q outputs (add_input sc x)
  bound : (st : Stmt) → Memᴰ st (stmts_of sheet q) → (e arg : Tree) → st.literal ≡ expr e → get_extra_arg sheet e ≡ some arg → (sc : Scope)
      → ScopeOf sheet parents q outputs sc
      → ScopeOf sheet parents q outputs (foldl add_unscoped sc (elements (gather_assigned_vars sheet parents false arg no_scope).unscoped))

-- The outer query has no scope around it; a comprehension has that of the query in whose statement it stands; in an output that scope with
-- the locals as unscoped names; the body of an `every` has that of key and value besides.
pub data Around (sheet : Sheet) : List Scope → ℕ → List Tree → Type 0 where
  outer : Around sheet [] 1 []
  in_stmt : (parents : List Scope) (q : ℕ) (outputs : List Tree) → Around sheet parents q outputs → (sc : Scope) → ScopeOf sheet parents q outputs sc
      → (st : Stmt) → Memᴰ st (stmts_of sheet q) → (e : Tree) → Memᴰ e (stmt_comprs sheet st)
      → Around sheet (sc ∷ parents) (row_of e).third (outputs_of e)
  in_output : (parents : List Scope) (q : ℕ) (outputs : List Tree) → Around sheet parents q outputs → (sc : Scope) → ScopeOf sheet parents q outputs sc
      → (e : Tree) → Memᴰ e (concat_map comprs outputs)
      → Around sheet (output_scope sc ∷ parents) (row_of e).third (outputs_of e)
  in_every : (parents : List Scope) (q : ℕ) (outputs : List Tree) → Around sheet parents q outputs → (sc : Scope) → ScopeOf sheet parents q outputs sc
      → (st : Stmt) → Memᴰ st (stmts_of sheet q) → (key value domain : Tree) (b : ℕ) → st.literal ≡ every key value domain b
      → Around sheet (foldl add_local no_scope (vars (chain key ++ chain value)) ∷ (sc ∷ parents)) b []
