-- What the analysis of a query keeps, whatever the way: a property S of its scope and a property R of the table, if what the way does at the
-- query's comprehensions and bodies keeps both.
use mathlib.Core.Path.{◌≡◌, refl}
use mathlib.Core.Bool.{Bool, true, false, cond, not}
use mathlib.Core.List.{List, [], ◌∷◌, ◌++◌, map, foldl, Memᴰ}
use mathlib.Core.Option.{Option, none, some}
use Prim.Native.Nat.{ℕ, suc}
use lib.Dec.{eqb}
use Rattle.base.specs.Lists.{filter, concat_map}
use Rattle.base.proofs.Laws.Members.{filter_mem}
use Rattle.sheet.specs.declared.Row.{Row}
use Rattle.sheet.specs.Sheet.{Sheet}
use Rattle.sheet.specs.Kinds.{is_assign, is_col_eq}
use Rattle.scope.specs.Trees.{Tree, row_of, first_of, second_of, chain}
use Rattle.scope.specs.Traverse.{leaves, vars, comprs}
use Rattle.scope.specs.Paths.{get_extra_arg}
use Rattle.scope.specs.Statements.{Literal, some_vars, some_in, expr, not_expr, every, Stmt}
use Rattle.scope.specs.Scopes.{Scope, no_scope, span_of, add_local, add_unscoped, use_input}
use Rattle.definition.specs.Uses.{define, reads_input, undefined_var, variables_used, index_definitions, assigned_vars}
use Rattle.definition.specs.States.{lengths, QuerySchedule, State, set_scope, add_first_uses, add_definitions, fail, in_turn, Way}
use Rattle.definition.specs.Using.{undefined_at, gather_used_vars, check_assigned, record_one, record_each, at_least_one}
use Rattle.definition.specs.Comprs.{Mods, propagate, comprs_use, use_compr, all_used, process_compr, process_comprs, use_expr}
use Rattle.definition.specs.Exprs.{Pairing, pair, mismatch, pairings, assign_one_way, assign_pairing, process_assign_expr, process_plain_expr, process_expr, process_extra_arg, process_call}
use Rattle.definition.specs.SomeIn.{some_vars_in, non_vars, fail_if_some, process_non_var, process_some_in}
use Rattle.definition.specs.Queries.{mods_of, process_every, process_literal, process_stmt, process_stmts, output_scope, output_compr, analyze_output_expr}
use Rattle.original.proofs.Laws.Members.{Among, mem_left, mem_right, within-append, mem_concat_map}
use Rattle.original.specs.Inner.Places.{pair_comprs, expr_comprs, call_comprs, literal_comprs, stmt_comprs}
use Rattle.original.proofs.Laws.Steps.{HoldsScope, Safe, good_turn, safe_then, safe_fold, safe_first_uses, safe_definitions, safe_fail, safe_fail_or, safe_scope, safe_one, safe_each, safe_at_least_one, safe_checks, safe_check_assigned, good_fail_if}

-- What is asked of S and of the way, for these statements and outputs.
pub record KeptByWay (sheet : Sheet) (way : Way) (stmts : List Stmt) (outputs : List Tree) (S : Scope → Type 0) (R : List QuerySchedule → Type 0) : Type 0 where
  pub flag : (sc : Scope) (b : Bool) → S sc → S (use_input b sc)
  pub extra : (st : Stmt) → Memᴰ st stmts → (e arg : Tree) → st.literal ≡ expr e → get_extra_arg sheet e ≡ some arg → (sc : Scope) → S sc
      → S (foldl add_unscoped sc (way.extra_vars arg))
  pub compr : (st : Stmt) → Memᴰ st stmts → (e : Tree) → Memᴰ e (stmt_comprs sheet st)
      → Safe S R (λ s. in_turn (way.compr s.scope e ∷ (λ t. propagate sheet way t.scope e t) ∷ []) s)
  pub output : (e : Tree) → Memᴰ e (concat_map comprs outputs)
      → Safe S R (λ s. in_turn (way.compr (output_scope s.scope) e ∷ (λ t. propagate sheet way (output_scope t.scope) e t) ∷ []) s)
  pub body : (st : Stmt) → Memᴰ st stmts → (key value domain : Tree) (q : ℕ) → st.literal ≡ every key value domain q
      → Safe S R (λ t. way.body (foldl add_local no_scope (vars (chain key ++ chain value))) t.scope q t)

module _ (sheet : Sheet) (way : Way) (stmts : List Stmt) (outputs : List Tree) (S : Scope → Type 0) (R : List QuerySchedule → Type 0)
    (k : KeptByWay sheet way stmts outputs S R) where
  -- The uses of an expression.
  good-used : (i : ℕ) (extras : List ℕ) (t : Tree) → Safe S R (gather_used_vars sheet i extras t)
  unfolding gather_used_vars
  good-used i extras t s o =
      let f1 : State → State = λ u. set_scope (use_input (reads_input sheet t) u.scope) u in
      let f2 : State → State = add_first_uses (map span_of (variables_used sheet s.scope extras t)) in
      let f3 : State → State = add_definitions (index_definitions sheet s.scope extras i t) in
      safe_fail_or S R (in_turn (f1 ∷ f2 ∷ f3 ∷ []))
      (safe_then S R f1 (f2 ∷ f3 ∷ [])
      (λ u p. safe_scope S R (use_input (reads_input sheet t) u.scope) (k.flag u.scope (reads_input sheet t) p.here) u p)
      (safe_then S R f2 (f3 ∷ []) (safe_first_uses S R (map span_of (variables_used sheet s.scope extras t)))
      (good_turn S R f3 (safe_definitions S R (index_definitions sheet s.scope extras i t)))))
      (undefined_at (undefined_var sheet s.scope t)) s o

  -- What comprehensions use.
  good-use_compr : (e : Tree) → Safe S R (use_compr sheet way e)
  unfolding use_compr
  good-use_compr e s o =
      safe_first_uses S R (map (λ x. record { name = x; line = (row_of e).line; col = (row_of e).col }) (comprs_use sheet way (e ∷ []) s)) s o

  module _ (st : Stmt) (at : Memᴰ st stmts) where
    -- The comprehensions of the statement.
    abbrev C : List Tree
    C = stmt_comprs sheet st

    -- ---- expressions

    -- Comprehensions.
    good-comprs : (cs : List Tree) → Among cs C → Safe S R (process_comprs sheet way cs)
    unfolding process_comprs process_compr
    good-comprs cs h =
        safe_fold S R (process_compr sheet way) cs
        (λ e m s o. good_turn S R (use_compr sheet way e) (good-use_compr e) _ (k.compr st at e (h e m) s o))

    -- An expression with its comprehensions.
    good-expr : (i : ℕ) (extras : List ℕ) (m : Mods) (t : Tree) → Among (comprs t ++ m.comprs) C → Safe S R (use_expr sheet way i extras m t)
    unfolding use_expr
    good-expr i extras m t h =
        safe_then S R (gather_used_vars sheet i extras t) (process_comprs sheet way (comprs t ++ m.comprs) ∷ []) (good-used i extras t)
        (good_turn S R (process_comprs sheet way (comprs t ++ m.comprs)) (good-comprs (comprs t ++ m.comprs) h))

    -- One direction of an assignment.
    good-way : (i : ℕ) (m : Mods) (check : Bool) (target source : Tree) → Among (comprs source ++ m.comprs) C
        → Safe S R (assign_one_way sheet way i m check target source)
    unfolding assign_one_way
    good-way i m check target source h =
        let used : State → ℕ → List ℕ = λ t x. filter (λ y. not (eqb y x)) (all_used sheet way [] m source t) in
        let last : State → State = λ t. record_each i (assigned_vars t.scope target) (used t) t in
        safe_then S R (use_expr sheet way i [] m source) (check_assigned check target ∷ last ∷ []) (good-expr i [] m source h)
        (safe_then S R (check_assigned check target) (last ∷ []) (safe_check_assigned S R check target)
        (good_turn S R last (λ t p. safe_each S R i (assigned_vars t.scope target) (used t) t p)))

    -- A pair.
    good_pairing : (i : ℕ) (m : Mods) → Among m.comprs C → (check : Bool) (j : Pairing) → Among (pair_comprs j) C
        → Safe S R (λ s. assign_pairing sheet way i m check s j)
    unfolding assign_pairing
    good_pairing i m w check (pair lhs rhs) h =
        let left = within-append (comprs lhs) m.comprs C (λ e n. h e (mem_left (comprs lhs) (comprs rhs) e n)) w in
        let right = within-append (comprs rhs) m.comprs C (λ e n. h e (mem_right (comprs lhs) (comprs rhs) e n)) w in
        safe_then S R (assign_one_way sheet way i m check lhs rhs) (assign_one_way sheet way i m false rhs lhs ∷ [])
        (good-way i m check lhs rhs right) (good_turn S R (assign_one_way sheet way i m false rhs lhs) (good-way i m false rhs lhs left))
    good_pairing i m w check (mismatch v) h =
        good_turn S R (fail (lengths v.line v.col)) (safe_fail S R (lengths v.line v.col))

    -- A plain expression.
    good-plain : (i : ℕ) (m : Mods) → Among m.comprs C → (e : Tree) → Among (comprs e) C → Safe S R (process_plain_expr sheet way i m e)
    unfolding process_plain_expr
    good-plain i m w e h =
        let last : State → State = λ t. record_one i 0 (all_used sheet way [] m e t) t in
        safe_then S R (use_expr sheet way i [] m e) (last ∷ []) (good-expr i [] m e (within-append (comprs e) m.comprs C h w))
        (good_turn S R last (λ t p. safe_one S R i 0 (all_used sheet way [] m e t) t p))

    -- An expression.
    good-process_expr : (i : ℕ) (m : Mods) → Among m.comprs C → (e : Tree) → Among (expr_comprs e) C → Safe S R (process_expr sheet way i m e)
    unfolding process_expr process_assign_expr expr_comprs
    good-process_expr i m w e h s o = go (is_assign (row_of e)) h
      where
        ps : List Pairing
        ps = pairings (first_of e) (second_of e)

        go : (b : Bool) → Among (cond b (concat_map pair_comprs ps) (comprs e)) C
            → HoldsScope S R (cond b (foldl (assign_pairing sheet way i m (is_col_eq (row_of e))) s ps) (process_plain_expr sheet way i m e s))
        go true v =
            safe_fold S R (assign_pairing sheet way i m (is_col_eq (row_of e))) ps
            (λ j n. good_pairing i m w (is_col_eq (row_of e)) j (λ d x. v d (mem_concat_map pair_comprs ps j n d x))) s o
        go false v = good-plain i m w e v s o

    -- An expression with its extra argument, if it has one.
    good_call : (e : Tree) → st.literal ≡ expr e → (x : Option Tree) → get_extra_arg sheet e ≡ x → (i : ℕ) (m : Mods) → Among m.comprs C
        → Among (call_comprs x e) C → Safe S R (process_call sheet way x i m e)
    unfolding process_call process_extra_arg
    good_call e is none has i m w h s o = good-process_expr i m w e h s o
    good_call e is (some arg) has i m w h s o =
        let extras = way.extra_vars arg in
        let b = foldl add_unscoped s.scope extras in
        let f : State → State = λ u. record_each i extras (λ x. all_used sheet way extras m e u) u in
        safe_then S R (use_expr sheet way i extras m e) (f ∷ []) (good-expr i extras m e (within-append (comprs e) m.comprs C h w))
        (good_turn S R f (λ u p. safe_each S R i extras (λ x. all_used sheet way extras m e u) u p)) (set_scope b s)
        (safe_scope S R b (k.extra st at e arg is has s.scope o.here) s o)

    -- ---- literals

    -- A part of a some-in pattern.
    good_non_var : (i : ℕ) (m : Mods) (e : Tree) → Among (comprs e ++ m.comprs) C → Safe S R (λ s. process_non_var sheet way i m s e)
    unfolding process_non_var
    good_non_var i m e h =
        let cs = comprs e ++ m.comprs in
        let f : State → State = λ t. fail_if_some (index_definitions sheet t.scope [] i e) t in
        safe_then S R (gather_used_vars sheet i [] e) (f ∷ process_comprs sheet way cs ∷ []) (good-used i [] e)
        (safe_then S R f (process_comprs sheet way cs ∷ []) (λ t p. good_fail_if S R (index_definitions sheet t.scope [] i e) t p)
        (good_turn S R (process_comprs sheet way cs) (good-comprs cs h)))

    -- `some .. in ..`.
    good-some_in : (i : ℕ) (m : Mods) → Among m.comprs C → (ls : List Tree) → Among (concat_map comprs ls) C → (collection : Tree)
        → Among (comprs collection) C → Safe S R (process_some_in sheet way i m ls collection)
    unfolding process_some_in non_vars
    good-some_in i m w ls v collection h s o =
        let names = some_vars_in sheet s.scope ls in
        let others = non_vars sheet s.scope ls in
        let rest : Mods = record { used_vars = []; comprs = m.comprs } in
        let f2 : State → State = λ t. add_definitions (map (λ (w : Row). define i w.name (all_used sheet way [] m collection t)) names) t in
        let f3 : State → State = add_first_uses (map span_of names) in
        let f4 : State → State = λ t. foldl (process_non_var sheet way i m) t others in
        let f5 : State → State = λ t. record_one i 0 (concat_map (λ e. all_used sheet way [] rest e t) others) t in
        safe_then S R (use_expr sheet way i [] m collection) (f2 ∷ f3 ∷ f4 ∷ f5 ∷ [])
        (good-expr i [] m collection (within-append (comprs collection) m.comprs C h w))
        (safe_then S R f2 (f3 ∷ f4 ∷ f5 ∷ [])
        (λ t p. safe_definitions S R (map (λ (w : Row). define i w.name (all_used sheet way [] m collection t)) names) t p)
        (safe_then S R f3 (f4 ∷ f5 ∷ []) (safe_first_uses S R (map span_of names))
        (safe_then S R f4 (f5 ∷ [])
        (safe_fold S R (process_non_var sheet way i m) others
        (λ e n.
        good_non_var i m e
        (within-append (comprs e) m.comprs C (λ d x. v d (mem_concat_map comprs ls e (filter_mem _ ls n).0 d x)) w)))
        (good_turn S R f5 (λ t p. safe_one S R i 0 (concat_map (λ e. all_used sheet way [] rest e t) others) t p))))) s o

    -- `every`.
    good-every : (i : ℕ) (m : Mods) → Among m.comprs C → (key value domain : Tree) (query : ℕ) → st.literal ≡ every key value domain query
        → Among (comprs domain) C → Safe S R (process_every sheet way i m key value domain query)
    unfolding process_every
    good-every i m w key value domain query is h =
        let inner : Scope = foldl add_local no_scope (vars (chain key ++ chain value)) in
        let f : State → State = λ t. way.body inner t.scope query t in
        safe_then S R (process_plain_expr sheet way i m domain) (f ∷ []) (good-plain i m w domain h)
        (good_turn S R f (k.body st at key value domain query is))

    -- A literal.
    good-literal : (i : ℕ) (m : Mods) → Among m.comprs C → (l : Literal) → st.literal ≡ l → Among (literal_comprs sheet l) C
        → Safe S R (process_literal sheet way i m l)
    unfolding process_literal literal_comprs
    good-literal i m w (some_vars vs) is h = safe_checks S R (vars (chain vs))
    good-literal i m w (some_in key value collection) is h =
        let ls = leaves key ++ leaves value in
        good-some_in i m w ls (λ d n. h d (mem_right (comprs collection) (concat_map comprs ls) d n)) collection
        (λ d n. h d (mem_left (comprs collection) (concat_map comprs ls) d n))
    good-literal i m w (expr e) is h = good_call e is (get_extra_arg sheet e) refl i m w h
    good-literal i m w (not_expr e) is h = good-process_expr i m w e h
    good-literal i m w (every key value domain query) is h = good-every i m w key value domain query is h

    -- A statement.
    good_stmt : (i : ℕ) → Safe S R (process_stmt sheet way i st)
    unfolding process_stmt mods_of stmt_comprs
    good_stmt i =
        let mods = concat_map comprs st.with_mods in
        let f1 : State → State = λ t. foldl (λ u e. in_turn (gather_used_vars sheet i [] e ∷ []) u) t st.with_mods in
        let f2 : State → State = λ t. process_literal sheet way i (mods_of sheet t.scope st.with_mods) st.literal t in
        safe_then S R f1 (f2 ∷ at_least_one i ∷ [])
        (safe_fold S R (λ u e. in_turn (gather_used_vars sheet i [] e ∷ []) u) st.with_mods
        (λ e n. good_turn S R (gather_used_vars sheet i [] e) (good-used i [] e)))
        (safe_then S R f2 (at_least_one i ∷ [])
        (λ t p.
        good-literal i (mods_of sheet t.scope st.with_mods) (mem_left mods (literal_comprs sheet st.literal)) st.literal refl
        (mem_right mods (literal_comprs sheet st.literal)) t p)
        (good_turn S R (at_least_one i) (safe_at_least_one S R i)))

  -- ---- the query

  -- Statements.
  pub safe_stmts : (rest : List Stmt) → Among rest stmts → (i : ℕ) → Safe S R (process_stmts sheet way i rest)
  unfolding process_stmts
  safe_stmts [] h i s o = o
  safe_stmts (st ∷ rest) h i s o =
      safe_stmts rest (λ x m. h x (Memᴰ.tail m)) (suc i) _
      (good_turn S R (process_stmt sheet way i st) (good_stmt st (h st (Memᴰ.head refl)) i) s o)

  -- Outputs.
  pub safe_outputs : Safe S R (λ s. foldl (analyze_output_expr sheet way) s outputs)
  unfolding analyze_output_expr output_compr
  safe_outputs =
      safe_fold S R (analyze_output_expr sheet way) outputs
      (λ t m. safe_fold S R (output_compr sheet way) (comprs t) (λ e n. k.output e (mem_concat_map comprs outputs t m e n)))
