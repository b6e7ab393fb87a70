-- What the analysis of a query's statements and outputs keeps, if the analysis of nested queries keeps R.
use mathlib.Core.Path.{◌≡◌, refl}
use mathlib.Core.Bool.{Bool, true, not, ◌||◌, ◌&&◌}
use mathlib.Core.List.{List, [], ◌∷◌, ◌++◌, map, foldl}
use Prim.Native.Nat.{ℕ, suc}
use lib.Dec.{eqb}
use Rattle.base.proofs.Laws.Truth.{and_left, and_right, or_right}
use Rattle.base.specs.Lists.{all, concat_map}
use Rattle.order.specs.Definitions.{Definition}
use Rattle.base.proofs.Laws.ListLaws.{all_append, all_weaken, all-kept, all_filter, all_map, all-concat_map, concat_map_always}
use Rattle.sheet.specs.declared.Row.{Row}
use Rattle.sheet.specs.Sheet.{Sheet, is_input}
use Rattle.sheet.specs.Kinds.{is_var}
use Rattle.scope.specs.Trees.{Tree, row_of, chain}
use Rattle.scope.specs.Traverse.{leaves, vars, comprs}
use Rattle.scope.specs.Paths.{get_extra_arg}
use Rattle.scope.specs.Statements.{Literal, some_vars, some_in, expr, not_expr, every, Stmt}
use Rattle.scope.proofs.Laws.TreeRows.{rows_pass, leaves-rows, comprs-rows, extra_rows}
use Rattle.scope.proofs.Laws.StatementRows.{literal_rows, stmt_rows}
use Rattle.scope.specs.Scopes.{Scope, no_scope, span_of, is_local, owns, add_local}
use Rattle.definition.specs.Uses.{define, index_definitions}
use Rattle.definition.specs.States.{index_variable, QuerySchedule, Run, State, add_first_uses, add_definitions, set_run, in_turn, Way}
use Rattle.definition.specs.Using.{gather_used_vars, record_one, at_least_one}
use Rattle.definition.specs.Comprs.{Mods, propagate, all_used, process_comprs, use_expr}
use Rattle.definition.specs.Exprs.{process_plain_expr}
use Rattle.definition.specs.SomeIn.{some_vars_in, non_vars, fail_if_some, process_non_var, process_some_in}
use Rattle.definition.specs.Queries.{mods_of, process_every, process_literal, process_stmt, process_stmts, output_scope, output_compr, analyze_output_expr}
use Rattle.definition_once.specs.Inner.OnceWay.{Nested, analyze_compr, once_way}
use Rattle.definition_once.proofs.Laws.Own.{define-own, local_own, all_used-own, mods-own}
use Rattle.definition_once.proofs.Laws.Steps.{KeptByChanges, Rises, HoldsBoth, KeepsBoth, Good, good-same, good-end, good_then, good-fold, good-first_uses, good-run, good-fail, good-definitions, good-used, good-propagate, good-one, good-at_least_one, good_checks}
use Rattle.definition_once.proofs.Laws.ExprSteps.{row_passes, good-compr, good-comprs, good-expr, good-plain, good-process_expr, good_call}

-- The names of a some-in pattern are locals.
some_local : (sheet : Sheet) (sc : Scope) (ls : List Tree)
    → all (λ (w : Row). is_local sc w.name && not (is_input sheet w.name)) (some_vars_in sheet sc ls) ≡ true
unfolding some_vars_in
some_local sheet sc ls = all-kept (λ (w : Row). is_local sc w.name && not (is_input sheet w.name)) (vars ls)

module _ (sheet : Sheet) (nested : Nested) (parents : List Scope) (Q : ℕ → Bool) (S : Scope → List Definition → Type 0)
    (R : List QuerySchedule → Type 0) (k : KeptByChanges Q S) (rises : Rises Q R) (unnamed : Q 0 ≡ true)
    (keeps : (ps : List Scope) (q : ℕ) (outs : List Tree) (r : Run) → all (rows_pass (row_passes Q)) outs ≡ true → R r.schedules → R (nested ps q outs r).schedules)
  where
    abbrev way : Way
    way = once_way sheet nested parents

    good_non_var : (sc : Scope) (i : ℕ) (m : Mods) → all (rows_pass (row_passes Q)) m.comprs ≡ true → (e : Tree) → rows_pass (row_passes Q) e ≡ true
        → Good S R sc (λ s. process_non_var sheet way i m s e)
    unfolding process_non_var
    good_non_var sc i m mt e h =
        let cs = comprs e ++ m.comprs in
        let f : State → State = λ t. fail_if_some (index_definitions sheet t.scope [] i e) t in
        good_then S R sc (gather_used_vars sheet i [] e) (f ∷ process_comprs sheet way cs ∷ []) (good-used S R Q k rises sheet sc i [] e)
        (good_then S R sc f (process_comprs sheet way cs ∷ []) (λ t o g. none_of t o g (index_definitions sheet t.scope [] i e))
        (good_then S R sc (process_comprs sheet way cs) []
        (good-comprs sheet nested parents Q S R k rises unnamed keeps sc cs (all_append (rows_pass (row_passes Q)) (comprs e) m.comprs (comprs-rows (row_passes Q) e h) mt)) (good-end S R sc)))
      where
        none_of : (t : State) → HoldsBoth S R t → ((x : ℕ) → owns sc x ≡ true → owns t.scope x ≡ true) → (l : List Definition) → KeepsBoth S R t (fail_if_some l t)
        none_of t o g [] = good-same S R sc t o g
        none_of t o g (d ∷ defs) = good-fail S R sc index_variable t o g

    good-some_in : (sc : Scope) (i : ℕ) (m : Mods) → all (rows_pass (row_passes Q)) m.comprs ≡ true → all (owns sc) m.used_vars ≡ true
        → (ls : List Tree) → all (rows_pass (row_passes Q)) ls ≡ true → (collection : Tree) → rows_pass (row_passes Q) collection ≡ true
        → Good S R sc (process_some_in sheet way i m ls collection)
    unfolding process_some_in non_vars
    good-some_in sc i m mt own ls lt collection ct s o h =
        let a = s.scope in
        let own_a = all_weaken (owns sc) (owns a) h m.used_vars own in
        let names = some_vars_in sheet a ls in
        let others = non_vars sheet a ls in
        let rest : Mods = record { used_vars = []; comprs = m.comprs } in
        let f2 : State → State = λ t. add_definitions (map (λ (w : Row). define i w.name (all_used sheet way [] m collection t)) names) t in
        let f3 : State → State = add_first_uses (map span_of names) in
        let f4 : State → State = λ t. foldl (process_non_var sheet way i m) t others in
        let f5 : State → State = λ t. record_one i 0 (concat_map (λ e. all_used sheet way [] rest e t) others) t in
        good_then S R a (use_expr sheet way i [] m collection) (f2 ∷ f3 ∷ f4 ∷ f5 ∷ []) (good-expr sheet nested parents Q S R k rises unnamed keeps a i [] m mt collection ct)
        (good_then S R a f2 (f3 ∷ f4 ∷ f5 ∷ [])
        (λ t p g. good-definitions S R Q k rises t (map (λ (w : Row). define i w.name (all_used sheet way [] m collection t)) names) p
        (all_map _ (λ (w : Row). is_local a w.name && not (is_input sheet w.name)) (λ (w : Row). define i w.name (all_used sheet way [] m collection t))
        (λ w q. define-own t.scope i w.name (all_used sheet way [] m collection t)
        (or_right (eqb w.name 0) (owns t.scope w.name) (g w.name (local_own a w.name (and_left (is_local a w.name) (not (is_input sheet w.name)) q))))
        (all_used-own sheet way a [] m collection t g own_a))
        names (some_local sheet a ls)))
        (good_then S R a f3 (f4 ∷ f5 ∷ []) (good-first_uses S R a (map span_of names))
        (good_then S R a f4 (f5 ∷ [])
        (good-fold S R a (rows_pass (row_passes Q)) (process_non_var sheet way i m) (good_non_var a i m mt) others
        (all_filter (rows_pass (row_passes Q)) (λ e. not (is_var (row_of e) && (is_input sheet (row_of e).name || is_local a (row_of e).name))) ls lt))
        (good_then S R a f5 []
        (λ t p g. good-one S R Q k rises i 0 (concat_map (λ e. all_used sheet way [] rest e t) others) t p refl
        (concat_map_always (owns t.scope) (λ e. all_used sheet way [] rest e t) (λ e. all_used-own sheet way a [] rest e t g refl) others)) (good-end S R a)))))
        s o (λ x e. e)

    good-every : (sc : Scope) (i : ℕ) (m : Mods) → all (rows_pass (row_passes Q)) m.comprs ≡ true → all (owns sc) m.used_vars ≡ true
        → (key value domain : Tree) → rows_pass (row_passes Q) domain ≡ true → (query : ℕ) → Good S R sc (process_every sheet way i m key value domain query)
    unfolding process_every
    good-every sc i m mt own key value domain dt query =
        let inner : Scope = foldl add_local no_scope (vars (chain key ++ chain value)) in
        let f : State → State = λ t. set_run (nested (inner ∷ (t.scope ∷ parents)) query [] t.run) t in
        good_then S R sc (process_plain_expr sheet way i m domain) (f ∷ []) (good-plain sheet nested parents Q S R k rises unnamed keeps sc i m mt own domain dt)
        (good_then S R sc f []
        (λ t o g. good-run S R t (nested (inner ∷ (t.scope ∷ parents)) query [] t.run) o (keeps (inner ∷ (t.scope ∷ parents)) query [] t.run refl o.table))
        (good-end S R sc))

    good-literal : (sc : Scope) (i : ℕ) (m : Mods) → all (rows_pass (row_passes Q)) m.comprs ≡ true → all (owns sc) m.used_vars ≡ true
        → (l : Literal) → literal_rows (row_passes Q) l ≡ true → Good S R sc (process_literal sheet way i m l)
    unfolding process_literal
    good-literal sc i m mt own (some_vars vs) h = good_checks S R Q k rises sc (vars (chain vs))
    good-literal sc i m mt own (some_in key value collection) h =
        let h2 = and_right (rows_pass (row_passes Q) key) _ h in
        good-some_in sc i m mt own (leaves key ++ leaves value)
        (all_append (rows_pass (row_passes Q)) (leaves key) (leaves value) (leaves-rows (row_passes Q) key (and_left (rows_pass (row_passes Q) key) _ h)) (leaves-rows (row_passes Q) value (and_left (rows_pass (row_passes Q) value) _ h2)))
        collection (and_right (rows_pass (row_passes Q) value) _ h2)
    good-literal sc i m mt own (expr e) h = good_call sheet nested parents Q S R k rises unnamed keeps sc i m mt own (get_extra_arg sheet e) (extra_rows (row_passes Q) sheet e h) e h
    good-literal sc i m mt own (not_expr e) h = good-process_expr sheet nested parents Q S R k rises unnamed keeps sc i m mt own e h
    good-literal sc i m mt own (every key value domain query) h =
        good-every sc i m mt own key value domain (and_right (rows_pass (row_passes Q) value) _ (and_right (rows_pass (row_passes Q) key) _ h)) query

    mods-rows : (sc : Scope) (mods : List Tree) → all (rows_pass (row_passes Q)) mods ≡ true → all (rows_pass (row_passes Q)) (mods_of sheet sc mods).comprs ≡ true
    unfolding mods_of
    mods-rows sc mods h = all-concat_map (rows_pass (row_passes Q)) (rows_pass (row_passes Q)) comprs (comprs-rows (row_passes Q)) mods h

    pub good_stmt : (sc : Scope) (i : ℕ) (st : Stmt) → stmt_rows (row_passes Q) st ≡ true → Good S R sc (process_stmt sheet way i st)
    unfolding process_stmt
    good_stmt sc i st h =
        let mt = and_left _ (literal_rows (row_passes Q) st.literal) h in
        let f1 : State → State = λ t. foldl (λ u e. in_turn (gather_used_vars sheet i [] e ∷ []) u) t st.with_mods in
        let f2 : State → State = λ t. process_literal sheet way i (mods_of sheet t.scope st.with_mods) st.literal t in
        good_then S R sc f1 (f2 ∷ at_least_one i ∷ [])
        (good-fold S R sc (rows_pass (row_passes Q)) (λ u e. in_turn (gather_used_vars sheet i [] e ∷ []) u)
        (λ e q. good_then S R sc (gather_used_vars sheet i [] e) [] (good-used S R Q k rises sheet sc i [] e) (good-end S R sc)) st.with_mods mt)
        (good_then S R sc f2 (at_least_one i ∷ [])
        (λ t o g. good-literal t.scope i (mods_of sheet t.scope st.with_mods) (mods-rows t.scope st.with_mods mt) (mods-own sheet t.scope st.with_mods)
        st.literal (and_right (all (rows_pass (row_passes Q)) st.with_mods) _ h) t o (λ x e. e))
        (good_then S R sc (at_least_one i) [] (good-at_least_one S R Q k rises sc i) (good-end S R sc)))

    pub good_stmts : (sc : Scope) (stmts : List Stmt) → all (stmt_rows (row_passes Q)) stmts ≡ true → (i : ℕ) → Good S R sc (process_stmts sheet way i stmts)
    unfolding process_stmts
    good_stmts sc [] t i s o h = record { holds = o; grows = λ x e. e }
    good_stmts sc (st ∷ stmts) t i s o h =
        let a = good_then S R sc (process_stmt sheet way i st) [] (good_stmt sc i st (and_left (stmt_rows (row_passes Q) st) _ t)) (good-end S R sc) s o h in
        let r = good_stmts sc stmts (and_right (stmt_rows (row_passes Q) st) _ t) (suc i) (in_turn (process_stmt sheet way i st ∷ []) s) a.holds (λ x e. a.grows x (h x e)) in
        record { holds = r.holds; grows = λ x e. r.grows x (a.grows x e) }

    pub good-outputs : (sc : Scope) (outputs : List Tree) → all (rows_pass (row_passes Q)) outputs ≡ true → Good S R sc (λ s. foldl (analyze_output_expr sheet way) s outputs)
    unfolding analyze_output_expr output_compr
    good-outputs sc outputs h =
        good-fold S R sc (rows_pass (row_passes Q)) (analyze_output_expr sheet way)
        (λ t q. good-fold S R sc (rows_pass (row_passes Q)) (output_compr sheet way)
        (λ e r s o g. good_then S R sc (analyze_compr nested (output_scope s.scope ∷ parents) e) ((λ u. propagate sheet way (output_scope u.scope) e u) ∷ [])
        (good-compr sheet nested parents Q S R k rises unnamed keeps sc (output_scope s.scope ∷ parents) e r)
        (good_then S R sc (λ u. propagate sheet way (output_scope u.scope) e u) [] (good-propagate S R Q k rises sheet nested parents sc (λ u. output_scope u.scope) e) (good-end S R sc)) s o g) (comprs t) (comprs-rows (row_passes Q) t q)) outputs h
