-- What the gathering keeps: a property that each addition to a scope keeps is kept by all walks and by the gathering of a whole query.
use mathlib.Core.Path.{◌≡◌}
use mathlib.Core.Bool.{Bool, true, false, cond, not, ◌&&◌}
use mathlib.Core.List.{List, [], ◌∷◌, foldl}
use mathlib.Core.Logic.{◌⊎◌, inl, inr}
use mathlib.Core.Option.{Option, none, some}
use Rattle.base.proofs.Laws.Truth.{bool_cases, and_left, and_right}
use Rattle.base.specs.Lists.{all}
use Rattle.base.proofs.Laws.Mapping.{to_list}
use Rattle.sheet.specs.declared.Row.{Row}
use Rattle.sheet.specs.Sheet.{Sheet, is_input, is_special, no_row}
use Rattle.sheet.specs.Kinds.{is_var, is_ref_brack, is_assign, is_col_eq}
use Rattle.scope.specs.Trees.{Tree, row_of, first_of, second_of, chain}
use Rattle.scope.specs.Traverse.{traverse, leaves, vars}
use Rattle.scope.specs.Paths.{get_extra_arg}
use Rattle.scope.specs.Statements.{Literal, some_vars, some_in, expr, not_expr, every, Stmt}
use Rattle.scope.proofs.Laws.TreeRows.{rows_pass, chain-rows, traverse-rows, leaves-rows, first_rows_lem, second-rows, vars-rows, extra_rows}
use Rattle.scope.proofs.Laws.StatementRows.{literal_rows, stmt_rows}
use Rattle.scope.specs.Scopes.{contains, Scope, no_scope, add_local, add_unscoped, add_input, use_input, remove_shadowed, var_exists}
use Rattle.scope.specs.Gather.{assign_var, gather_assigned_vars, input_var, gather_input_vars, loop_var, gather_loop_vars, gather_read, gather_vars, gather_extra_arg, gather_expr, gather_literal, gather_stmt, gather_local_vars}

-- Each addition keeps P: of variables that pass the test q, and, of inputs, that exist in the parents.
pub record KeptByGathering (parents : List Scope) (q : Row → Bool) (P : Scope → Type 0) : Type 0 where
  pub local : (s : Scope) (w : Row) → q w ≡ true → P s → P (add_local s w)
  pub unscoped : (s : Scope) (w : Row) → q w ≡ true → P s → P (add_unscoped s w.name)
  pub input : (s : Scope) (w : Row) → q w ≡ true → var_exists parents w ≡ true → P s → P (add_input s w.name)
  pub flag : (s : Scope) (b : Bool) → P s → P (use_input b s)

module _ (P : Scope → Type 0) {A : Type 0} (f : A → Bool) (g : Scope → A → Scope) (h : (s : Scope) (x : A) → f x ≡ true → P s → P (g s x)) where
  pub fold-kept : (l : List A) → all f l ≡ true → (s : Scope) → P s → P (foldl g s l)
  fold-kept [] e s p = p
  fold-kept (x ∷ l) e s p = fold-kept l (and_right (f x) (all f l) e) (g s x) (h s x (and_left (f x) (all f l) e) p)

module _ (sheet : Sheet) (parents : List Scope) (q : Row → Bool) (d : q no_row ≡ true) (P : Scope → Type 0) (k : KeptByGathering parents q P) where
  assign_kept : (b : Bool) (s : Scope) (w : Row) → q w ≡ true → P s → P (assign_var sheet parents b s w)
  unfolding assign_var
  assign_kept b s w h p = go (is_special sheet w.name) b (bool_cases (var_exists parents w))
    where
      go : (x y : Bool) → (var_exists parents w ≡ true) ⊎ (var_exists parents w ≡ false)
          → P (cond x (use_input (is_input sheet w.name) s) (cond y (add_local s w)
          (cond (var_exists parents w) (add_input s w.name) (add_unscoped s w.name))))
      go true y e = k.flag s (is_input sheet w.name) p
      go false true e = k.local s w h p
      go false false (inl e) = rw e (k.input s w h e p)
      go false false (inr e) = rw e (k.unscoped s w h p)

  pub assigned_kept : (b : Bool) (t : Tree) → rows_pass q t ≡ true → (s : Scope) → P s → P (gather_assigned_vars sheet parents b t s)
  unfolding gather_assigned_vars
  assigned_kept b t h s p =
      fold-kept P q (assign_var sheet parents b) (assign_kept b) (vars (leaves t)) (vars-rows q d (leaves t) (leaves-rows q t h)) s p

  input-kept : (s : Scope) (w : Row) → q w ≡ true → P s → P (input_var sheet parents s w)
  unfolding input_var
  input-kept s w h p = go (is_input sheet w.name) (bool_cases (not (contains s.unscoped w.name) && var_exists parents w))
    where
      found : Bool
      found = not (contains s.unscoped w.name) && var_exists parents w

      go : (x : Bool) → (found ≡ true) ⊎ (found ≡ false) → P (cond x (use_input true s) (cond found (add_input s w.name) s))
      go true e = k.flag s true p
      go false (inl e) = rw e (k.input s w h (and_right (not (contains s.unscoped w.name)) _ e) p)
      go false (inr e) = rw e p

  loop_kept : (s : Scope) (e : Tree) → rows_pass q e ≡ true → P s → P (loop_var sheet parents s e)
  unfolding loop_var
  loop_kept s e h p = go (is_ref_brack (row_of e))
    where
      go : (x : Bool) → P (cond x (gather_assigned_vars sheet parents false (second_of e) s) (use_input (is_var (row_of e) && is_input sheet (row_of e).name) s))
      go true = assigned_kept false (second_of e) (second-rows q e h) s p
      go false = k.flag s (is_var (row_of e) && is_input sheet (row_of e).name) p

  read_kept : (s : Scope) (t : Tree) → rows_pass q t ≡ true → P s → P (gather_read sheet parents s t)
  unfolding gather_read gather_input_vars gather_loop_vars
  read_kept s t h p =
      fold-kept P (rows_pass q) (loop_var sheet parents) loop_kept (traverse t) (traverse-rows q t h) (gather_input_vars sheet parents t s)
      (fold-kept P q (input_var sheet parents) input-kept (vars (traverse t)) (vars-rows q d (traverse t) (traverse-rows q t h)) s p)

  vars-kept : (b : Bool) (s : Scope) (t : Tree) → rows_pass q t ≡ true → P s → P (gather_vars sheet parents b s t)
  unfolding gather_vars
  vars-kept b s t h p = read_kept _ t h (go (is_assign (row_of t)))
    where
      go : (x : Bool) → P (cond x
          (gather_assigned_vars sheet parents false (second_of t) (gather_assigned_vars sheet parents (is_col_eq (row_of t)) (first_of t) s))
          (gather_assigned_vars sheet parents b t s))
      go true =
          assigned_kept false (second_of t) (second-rows q t h) (gather_assigned_vars sheet parents (is_col_eq (row_of t)) (first_of t) s)
          (assigned_kept (is_col_eq (row_of t)) (first_of t) (first_rows_lem q t h) s p)
      go false = assigned_kept b t h s p

  expr-kept : (s : Scope) (e : Tree) → rows_pass q e ≡ true → P s → P (gather_expr sheet parents s e)
  unfolding gather_expr
  expr-kept s e h p = go (is_assign (row_of e))
    where
      extra : (x : Option Tree) → all (rows_pass q) (to_list x) ≡ true → (u : Scope) → P u → P (gather_extra_arg sheet parents x u)
      extra none g u r = r
      extra (some a) g u r = vars-kept false u a (and_left (rows_pass q a) true g) r

      go : (x : Bool) → P (cond x (gather_vars sheet parents false s e) (gather_extra_arg sheet parents (get_extra_arg sheet e) (gather_read sheet parents s e)))
      go true = vars-kept false s e h p
      go false = extra (get_extra_arg sheet e) (extra_rows q sheet e h) (gather_read sheet parents s e) (read_kept s e h p)

  literal-kept : (s : Scope) (l : Literal) → literal_rows q l ≡ true → P s → P (gather_literal sheet parents s l)
  unfolding gather_literal
  literal-kept s (some_vars vs) h p =
      fold-kept P q add_local k.local (vars (chain vs)) (vars-rows q d (chain vs) (chain-rows q vs h)) s p
  literal-kept s (some_in key value collection) h p =
      let h1 = and_left (rows_pass q key) _ h in
      let h2 = and_right (rows_pass q key) _ h in
      let f = fold-kept P (rows_pass q) (gather_vars sheet parents true) (vars-kept true) in
      read_kept _ collection (and_right (rows_pass q value) _ h2)
      (f (chain value) (chain-rows q value (and_left (rows_pass q value) _ h2)) _ (f (chain key) (chain-rows q key h1) s p))
  literal-kept s (expr e) h p = expr-kept s e h p
  literal-kept s (not_expr e) h p = expr-kept s e h p
  literal-kept s (every key value domain query) h p =
      read_kept s domain (and_right (rows_pass q value) _ (and_right (rows_pass q key) _ h)) p

  stmt_kept : (s : Scope) (st : Stmt) → stmt_rows q st ≡ true → P s → P (gather_stmt sheet parents s st)
  unfolding gather_stmt
  stmt_kept s st h p =
      literal-kept _ st.literal (and_right (all (rows_pass q) st.with_mods) _ h)
      (fold-kept P (rows_pass q) (gather_read sheet parents) read_kept st.with_mods (and_left _ (literal_rows q st.literal) h) s p)

  -- The scope of a query has P, if no scope at all has it and the last step keeps it.
  pub gather-kept : P no_scope → ((s : Scope) → P s → P (remove_shadowed s)) → (stmts : List Stmt) → all (stmt_rows q) stmts ≡ true
      → (outputs : List Tree) → all (rows_pass q) outputs ≡ true → P (gather_local_vars sheet parents stmts outputs)
  unfolding gather_local_vars
  gather-kept p last stmts h outputs g =
      last _ (fold-kept P (rows_pass q) (gather_vars sheet parents false) (vars-kept false) outputs g _
      (fold-kept P (stmt_rows q) (gather_stmt sheet parents) stmt_kept stmts h no_scope p))
