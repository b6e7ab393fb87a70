-- The walks that gather the variables of a query into its scope, below parents whose innermost stands in front.
-- Beside: traversal.rs, from `gather_assigned_vars` on; scheduler.rs, `gather_local_vars`.
use Rattle.std.specs.Prelude.{Bool, true, false, cond, not, ◌&&◌}
use mathlib.Core.List.{List, foldl}
use Rattle.std.proofs.Math.Option.{Option, none, some}
use Rattle.sheet.specs.declared.Row.{Row}
use Rattle.sheet.specs.Sheet.{Sheet, is_input, is_special}
use Rattle.sheet.specs.Kinds.{is_var, is_ref_brack, is_assign, is_col_eq}
use Rattle.scope.specs.Trees.{Tree, row_of, first_of, second_of, chain}
use Rattle.scope.specs.Traverse.{traverse, leaves, vars}
use Rattle.scope.specs.Scopes.{contains, Scope, add_local, add_unscoped, add_input, use_input, var_exists, no_scope, remove_shadowed}
use Rattle.scope.specs.Paths.{get_extra_arg}
use Rattle.scope.specs.Statements.{Literal, some_vars, some_in, expr, not_expr, every, Stmt}

-- ---- the walks over expressions (traversal.rs)

module _ (sheet : Sheet) (parents : List Scope) where
  -- `gather_assigned_vars` at a variable: special names are not bound; where it may shadow, it is a local; else it is an input if it
  -- exists, and unscoped if not.
  unfoldable pub assign_var : Bool → Scope → Row → Scope
  assign_var can_shadow s w =
      cond (is_special sheet w.name) (use_input (is_input sheet w.name) s)
      (cond can_shadow (add_local s w)
      (cond (var_exists parents w) (add_input s w.name)
      (add_unscoped s w.name)))

  -- `gather_assigned_vars`: over the leaves of a pattern.
  unfoldable pub gather_assigned_vars : Bool → Tree → Scope → Scope
  gather_assigned_vars can_shadow t s = foldl (assign_var can_shadow) s (vars (leaves t))

  -- `gather_input_vars` at a variable: an input if it exists and is not unscoped so far.
  unfoldable pub input_var : Scope → Row → Scope
  input_var s w =
      cond (is_input sheet w.name) (use_input true s)
      (cond (not (contains s.unscoped w.name) && var_exists parents w) (add_input s w.name) s)

  -- `gather_input_vars`: over all variables.
  unfoldable pub gather_input_vars : Tree → Scope → Scope
  gather_input_vars t s = foldl input_var s (vars (traverse t))

  -- `gather_loop_vars` at an expression: the index of a bracket is a pattern.
  unfoldable pub loop_var : Scope → Tree → Scope
  loop_var s e =
      cond (is_ref_brack (row_of e)) (gather_assigned_vars false (second_of e) s)
      (use_input (is_var (row_of e) && is_input sheet (row_of e).name) s)

  -- `gather_loop_vars`: over all expressions.
  unfoldable pub gather_loop_vars : Tree → Scope → Scope
  gather_loop_vars t s = foldl loop_var s (traverse t)

  -- What every expression that is read is put through.
  unfoldable pub gather_read : Scope → Tree → Scope
  gather_read s t = gather_loop_vars t (gather_input_vars t s)

  -- `gather_vars`: both sides of an assignment are patterns, and `:=` shadows.
  unfoldable pub gather_vars : Bool → Scope → Tree → Scope
  gather_vars can_shadow s t =
      gather_read
      (cond (is_assign (row_of t))
      (gather_assigned_vars false (second_of t) (gather_assigned_vars (is_col_eq (row_of t)) (first_of t) s))
      (gather_assigned_vars can_shadow t s))
      t

-- ---- the statements of a query (scheduler.rs, `gather_local_vars`)

module _ (sheet : Sheet) (parents : List Scope) where
  -- An extra argument binds.
  abbrev pub gather_extra_arg : Option Tree → Scope → Scope
  gather_extra_arg none s = s
  gather_extra_arg (some e) s = gather_vars sheet parents false s e

  -- `Literal::Expr` and `Literal::NotExpr`: an assignment binds; any other expression is read, and its extra argument binds.
  unfoldable pub gather_expr : Scope → Tree → Scope
  gather_expr s e =
      cond (is_assign (row_of e)) (gather_vars sheet parents false s e) (gather_extra_arg (get_extra_arg sheet e) (gather_read sheet parents s e))

  -- Key and value of an `every` are seen in its body only.
  unfoldable pub gather_literal : Scope → Literal → Scope
  gather_literal s (some_vars vs) = foldl add_local s (vars (chain vs))
  gather_literal s (some_in key value collection) =
      gather_read sheet parents (foldl (gather_vars sheet parents true) (foldl (gather_vars sheet parents true) s (chain key)) (chain value)) collection
  gather_literal s (expr e) = gather_expr s e
  gather_literal s (not_expr e) = gather_expr s e
  gather_literal s (every key value domain query) = gather_read sheet parents s domain

  -- The modifiers come first.
  unfoldable pub gather_stmt : Scope → Stmt → Scope
  gather_stmt s st = gather_literal (foldl (gather_read sheet parents) s st.with_mods) st.literal

  -- `gather_local_vars`: the statements in order, then the query's outputs; last, the locals leave inputs and unscoped.
  unfoldable pub gather_local_vars : List Stmt → List Tree → Scope
  gather_local_vars stmts outputs = remove_shadowed (foldl (gather_vars sheet parents false) (foldl gather_stmt no_scope stmts) outputs)
