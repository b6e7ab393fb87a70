-- Laws of `SameOuter`.
use mathlib.Core.Path.{◌≡◌, refl}
use mathlib.Core.Bool.{true, false, cond, not, ◌||◌, ◌&&◌}
use mathlib.Core.List.{List, [], ◌∷◌, foldl}
use mathlib.Core.Option.{Option, none, some}
use Rattle.sheet.specs.Sheet.{Sheet, is_input, is_special}
use Rattle.sheet.specs.Kinds.{is_var, is_ref_brack, is_assign, is_col_eq}
use Rattle.scope.specs.Trees.{Tree, row_of, first_of, second_of, chain}
use Rattle.scope.specs.Traverse.{traverse, leaves, vars}
use Rattle.scope.specs.Paths.{get_extra_arg}
use Rattle.scope.specs.Statements.{Literal, some_vars, some_in, expr, not_expr, every}
use Rattle.scope.specs.Scopes.{contains, Scope, no_scope, span_in, add_local, add_unscoped, add_input, use_input, remove_shadowed, not_below, var_exists}
use Rattle.scope.specs.Gather.{assign_var, gather_assigned_vars, input_var, gather_input_vars, loop_var, gather_loop_vars, gather_read, gather_vars, gather_extra_arg, gather_expr, gather_literal, gather_stmt, gather_local_vars}
use Rattle.original.specs.Inner.SameOuter.{SameOwn, SameOuter, outermost, below}

-- A scope agrees with itself.
pub same-own : (p : Scope) → SameOwn p p
same-own p = record { locals = refl; unscoped = refl }

-- And so do parents.
pub same-outer : (ps : List Scope) → SameOuter ps ps
same-outer [] = outermost
same-outer (p ∷ ps) = below (same-own p) (same-outer ps)

-- Whether a variable exists is the same.
pub var_exists-same : {ps qs : List Scope} → SameOuter ps qs → var_exists ps ≡ var_exists qs
unfolding var_exists
var_exists-same outermost = refl
var_exists-same (below own h) =
    λ i w. contains (own.unscoped i) w.name || (not_below (span_in (own.locals i) w.name) w || var_exists-same h i w)

-- ---- gathering

module _ (sheet : Sheet) (ps qs : List Scope) (exists : var_exists ps ≡ var_exists qs) where
  -- `assign_var`.
  assign_var-same : assign_var sheet ps ≡ assign_var sheet qs
  unfolding assign_var
  assign_var-same =
      λ i can_shadow s w.
      cond (is_special sheet w.name) (use_input (is_input sheet w.name) s)
      (cond can_shadow (add_local s w)
      (cond (exists i w) (add_input s w.name)
      (add_unscoped s w.name)))

  -- `gather_assigned_vars`.
  pub gather_assigned_vars-same : gather_assigned_vars sheet ps ≡ gather_assigned_vars sheet qs
  unfolding gather_assigned_vars
  gather_assigned_vars-same = λ i can_shadow t s. foldl (assign_var-same i can_shadow) s (vars (leaves t))

  -- `input_var`.
  input_var-same : input_var sheet ps ≡ input_var sheet qs
  unfolding input_var
  input_var-same =
      λ i s w.
      cond (is_input sheet w.name) (use_input true s)
      (cond (not (contains s.unscoped w.name) && exists i w) (add_input s w.name) s)

  -- `gather_input_vars`.
  gather_input_vars-same : gather_input_vars sheet ps ≡ gather_input_vars sheet qs
  unfolding gather_input_vars
  gather_input_vars-same = λ i t s. foldl (input_var-same i) s (vars (traverse t))

  -- `loop_var`.
  loop_var-same : loop_var sheet ps ≡ loop_var sheet qs
  unfolding loop_var
  loop_var-same =
      λ i s e.
      cond (is_ref_brack (row_of e)) (gather_assigned_vars-same i false (second_of e) s)
      (use_input (is_var (row_of e) && is_input sheet (row_of e).name) s)

  -- `gather_loop_vars`.
  gather_loop_vars-same : gather_loop_vars sheet ps ≡ gather_loop_vars sheet qs
  unfolding gather_loop_vars
  gather_loop_vars-same = λ i t s. foldl (loop_var-same i) s (traverse t)

  -- `gather_read`.
  gather_read-same : gather_read sheet ps ≡ gather_read sheet qs
  unfolding gather_read
  gather_read-same = λ i s t. gather_loop_vars-same i t (gather_input_vars-same i t s)

  -- `gather_vars`.
  gather_vars-same : gather_vars sheet ps ≡ gather_vars sheet qs
  unfolding gather_vars
  gather_vars-same =
      λ i can_shadow s t.
      gather_read-same i
      (cond (is_assign (row_of t))
      (gather_assigned_vars-same i false (second_of t) (gather_assigned_vars-same i (is_col_eq (row_of t)) (first_of t) s))
      (gather_assigned_vars-same i can_shadow t s))
      t

  -- `gather_extra_arg`.
  gather_extra_arg-same : (arg : Option Tree) → gather_extra_arg sheet ps arg ≡ gather_extra_arg sheet qs arg
  gather_extra_arg-same none = refl
  gather_extra_arg-same (some e) = λ i s. gather_vars-same i false s e

  -- `gather_expr`.
  gather_expr-same : gather_expr sheet ps ≡ gather_expr sheet qs
  unfolding gather_expr
  gather_expr-same =
      λ i s e.
      cond (is_assign (row_of e)) (gather_vars-same i false s e)
      (gather_extra_arg-same (get_extra_arg sheet e) i (gather_read-same i s e))

  -- `gather_literal`.
  gather_literal-same : (s : Scope) (l : Literal) → gather_literal sheet ps s l ≡ gather_literal sheet qs s l
  unfolding gather_literal
  gather_literal-same s (some_vars vs) = refl
  gather_literal-same s (some_in key value collection) =
      λ i.
      gather_read-same i
      (foldl (gather_vars-same i true) (foldl (gather_vars-same i true) s (chain key)) (chain value)) collection
  gather_literal-same s (expr e) = λ i. gather_expr-same i s e
  gather_literal-same s (not_expr e) = λ i. gather_expr-same i s e
  gather_literal-same s (every key value domain query) = λ i. gather_read-same i s domain

  -- `gather_stmt`.
  gather_stmt-same : gather_stmt sheet ps ≡ gather_stmt sheet qs
  unfolding gather_stmt
  gather_stmt-same = λ i s st. gather_literal-same (foldl (gather_read-same i) s st.with_mods) st.literal i

  -- The scope of a query is the same.
  pub gather_local_vars-same : gather_local_vars sheet ps ≡ gather_local_vars sheet qs
  unfolding gather_local_vars
  gather_local_vars-same =
      λ i stmts outputs. remove_shadowed (foldl (gather_vars-same i false) (foldl (gather_stmt-same i) no_scope stmts) outputs)
