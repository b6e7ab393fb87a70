-- Two ways to analyse go side by side through the statements of a query, its outputs, and so the query.
use mathlib.Core.Path.{◌≡◌, refl, ap, subst}
use mathlib.Core.List.{List, [], ◌∷◌, ◌++◌, foldl}
use mathlib.Core.Option.{Option, none, some}
use Prim.Native.Nat.{ℕ, suc}
use Rattle.base.specs.Lists.{concat_map}
use Rattle.sheet.specs.Sheet.{Sheet}
use Rattle.scope.specs.Trees.{Tree, chain}
use Rattle.scope.specs.Traverse.{leaves, vars, comprs}
use Rattle.scope.specs.Paths.{get_extra_arg}
use Rattle.scope.specs.Statements.{Literal, some_vars, some_in, expr, not_expr, every, Stmt}
use Rattle.scope.specs.Scopes.{Scope, no_scope, add_local, add_unscoped}
use Rattle.definition.specs.States.{QuerySchedule, State, set_scope, in_turn, Way}
use Rattle.definition.specs.Using.{gather_used_vars, check_first_use, record_each, at_least_one}
use Rattle.definition.specs.Comprs.{Mods, all_used, use_expr}
use Rattle.definition.specs.Queries.{mods_of, process_every, process_literal, process_stmt, process_stmts}
use Rattle.definition.specs.Exprs.{process_extra_arg, process_call}
use Rattle.original.proofs.Laws.Members.{Among, mem_left, mem_right, within-append}
use Rattle.original.specs.Inner.Places.{call_comprs, literal_comprs, stmt_comprs, body_of}
use Rattle.original.proofs.Laws.Beside.{Own, state_of, Tables, Beside, going, GoodBeside, beside_turn, beside_map, fold_beside, gather_used_vars-good, check_first_use_beside, record_each_beside, at_least_one-good}
use Rattle.original.proofs.Laws.CoupledComprs.{Coupling, forget, use_expr-good, all_used-same}
use Rattle.original.proofs.Laws.CoupledExprs.{process_plain_expr-good, process_expr-good}
use Rattle.original.proofs.Laws.CoupledSomeIn.{process_some_in-good}

-- A relation between two tables, whatever the scope.
abbrev pub Pairs : Type 1
Pairs = List QuerySchedule → List QuerySchedule → Type 0

-- It holds at any scope.
abbrev pub anywhere : Pairs → Tables
anywhere ρ sc T U = ρ T U

-- What is asked at a statement: from tables related before it, by a coupling at its comprehensions and at the body of an `every`, to tables
-- related after it.
pub record StmtCoupling (sheet : Sheet) (way way' : Way) (st : Stmt) (before after : Pairs) : Type 1 where
  pub coupling : Coupling way way' (stmt_comprs sheet st)
  pub begin : (sc : Scope) (T U : List QuerySchedule) → before T U → coupling.ρ [] sc T U
  pub done : body_of st.literal ≡ [] → (sc : Scope) (T U : List QuerySchedule) → coupling.ρ [] sc T U → after T U
  pub body : (inner : Scope) (query : ℕ) → body_of st.literal ≡ query ∷ []
      → GoodBeside (coupling.ρ []) (anywhere after) (λ s. way.body inner s.scope query s) (λ s. way'.body inner s.scope query s)

module _ (sheet : Sheet) (way way' : Way) (extras : (arg : Tree) → way.extra_vars arg ≡ way'.extra_vars arg) where
  module _ (C : List Tree) (c : Coupling way way' C) where
    -- A call with an extra argument that binds the names xs.
    extra_arg_beside : (i : ℕ) (m : Mods) (e : Tree) (xs : List ℕ) → Among (comprs e) C → Among m.comprs C
        → (o : Own) (T U : List QuerySchedule) → ((sc : Scope) → c.ρ [] sc T U)
        → Beside (c.ρ [])
        (in_turn (use_expr sheet way i xs m e ∷ (λ t. record_each i xs (λ x. all_used sheet way xs m e t) t) ∷ [])
        (set_scope (foldl add_unscoped o.scope xs) (state_of o T)))
        (in_turn (use_expr sheet way' i xs m e ∷ (λ t. record_each i xs (λ x. all_used sheet way' xs m e t) t) ∷ [])
        (set_scope (foldl add_unscoped o.scope xs) (state_of o U)))
    unfolding set_scope
    extra_arg_beside i m e xs h k o T U r =
        let cs = comprs e ++ m.comprs in
        let L = cs ++ [] in
        let sc = foldl add_unscoped o.scope xs in
        let p : Own = record { scope = sc; first_uses = o.first_uses; definitions = o.definitions } in
        forget sheet way way' C c cs []
        (beside_turn (c.ρ L) (c.ρ L) (λ t. record_each i xs (λ x. all_used sheet way xs m e t) t)
        (λ t. record_each i xs (λ x. all_used sheet way' xs m e t) t)
        (λ q A B z.
        record_each_beside (c.ρ L) (c.again L) i xs (λ x. all_used sheet way xs m e (state_of q A)) (λ x. all_used sheet way' xs m e (state_of q B))
        (ap {B = ℕ → List ℕ} (λ (l : List ℕ) (x : ℕ). l) (all_used-same sheet way way' C c xs m e L (mem_left cs []) q A B z)) q A B z)
        (use_expr-good sheet way way' C c i xs m e (within-append (comprs e) m.comprs C h k) [] p T U (r sc)))

    -- An expression, with its extra argument if it has one.
    process_call_beside : (arg : Option Tree) (i : ℕ) (m : Mods) (e : Tree) → Among (call_comprs arg e) C → Among m.comprs C
        → (o : Own) (T U : List QuerySchedule) → ((sc : Scope) → c.ρ [] sc T U)
        → Beside (c.ρ []) (process_call sheet way arg i m e (state_of o T)) (process_call sheet way' arg i m e (state_of o U))
    unfolding process_call process_extra_arg
    process_call_beside none i m e h k o T U r = process_expr-good sheet way way' C c i m e h k [] o T U (r o.scope)
    process_call_beside (some arg) i m e h k o T U r =
        let F : List ℕ → State = λ xs.
        in_turn (use_expr sheet way' i xs m e ∷ (λ t. record_each i xs (λ x. all_used sheet way' xs m e t) t) ∷ [])
        (set_scope (foldl add_unscoped o.scope xs) (state_of o U)) in
        subst (λ (xs : List ℕ). Beside (c.ρ []) (process_extra_arg sheet way i m e arg (state_of o T)) (F xs)) (extras arg)
        (extra_arg_beside i m e (way.extra_vars arg) h k o T U r)

  module _ (st : Stmt) (before after : Pairs) (c : StmtCoupling sheet way way' st before after) where
    -- Tables as before the statement are related at any scope; and as after it, if it has no body.
    ends : body_of st.literal ≡ [] → {s u : State} → Beside (c.coupling.ρ []) s u → Beside (anywhere after) s u
    ends h b = beside_map (c.coupling.ρ []) (anywhere after) (c.done h) b

    -- A literal.
    process_literal-good : (i : ℕ) (m : Mods) (l : Literal) → st.literal ≡ l → Among (literal_comprs sheet l) (stmt_comprs sheet st)
        → Among m.comprs (stmt_comprs sheet st)
        → GoodBeside (anywhere before) (anywhere after) (process_literal sheet way i m l) (process_literal sheet way' i m l)
    unfolding process_literal literal_comprs process_every
    process_literal-good i m (some_vars vs) e h k o T U r =
        ends (ap body_of e)
        (fold_beside (c.coupling.ρ []) check_first_use check_first_use (vars (chain vs))
        (λ w n s u b. check_first_use_beside (c.coupling.ρ []) (c.coupling.again []) w b) (going o T U (c.begin o.scope T U r)))
    process_literal-good i m (some_in key value collection) e h k o T U r =
        let ls = leaves key ++ leaves value in
        ends (ap body_of e)
        (process_some_in-good sheet way way' (stmt_comprs sheet st) c.coupling i m ls collection
        (λ d n. h d (mem_left (comprs collection) (concat_map comprs ls) d n))
        (λ d n. h d (mem_right (comprs collection) (concat_map comprs ls) d n)) k [] o T U (c.begin o.scope T U r))
    process_literal-good i m (expr x) e h k o T U r =
        ends (ap body_of e)
        (process_call_beside (stmt_comprs sheet st) c.coupling (get_extra_arg sheet x) i m x h k o T U (λ sc. c.begin sc T U r))
    process_literal-good i m (not_expr x) e h k o T U r =
        ends (ap body_of e)
        (process_expr-good sheet way way' (stmt_comprs sheet st) c.coupling i m x h k [] o T U (c.begin o.scope T U r))
    process_literal-good i m (every key value domain query) e h k o T U r =
        let inner = foldl add_local no_scope (vars (chain key ++ chain value)) in
        beside_turn (c.coupling.ρ []) (anywhere after) (λ t. way.body inner t.scope query t) (λ t. way'.body inner t.scope query t)
        (c.body inner query (ap body_of e))
        (process_plain_expr-good sheet way way' (stmt_comprs sheet st) c.coupling i m domain h k [] o T U (c.begin o.scope T U r))

    -- A statement with its modifiers.
    process_stmt-good : (i : ℕ) → GoodBeside (anywhere before) (anywhere after) (process_stmt sheet way i st) (process_stmt sheet way' i st)
    unfolding process_stmt mods_of stmt_comprs
    process_stmt-good i o T U r =
        let G : State → Tree → State = λ s e. in_turn (gather_used_vars sheet i [] e ∷ []) s in
        let mods = concat_map comprs st.with_mods in
        beside_turn (anywhere after) (anywhere after) (at_least_one i) (at_least_one i) (at_least_one-good (anywhere after) (λ a b A B x y. y) i)
        (beside_turn (anywhere before) (anywhere after) (λ t. process_literal sheet way i (mods_of sheet t.scope st.with_mods) st.literal t)
        (λ t. process_literal sheet way' i (mods_of sheet t.scope st.with_mods) st.literal t)
        (λ p A B z.
        process_literal-good i (mods_of sheet p.scope st.with_mods) st.literal refl
        (mem_right mods (literal_comprs sheet st.literal)) (mem_left mods (literal_comprs sheet st.literal)) p A B z)
        (fold_beside (anywhere before) G G st.with_mods
        (λ e n s u b.
        beside_turn (anywhere before) (anywhere before) (gather_used_vars sheet i [] e) (gather_used_vars sheet i [] e)
        (gather_used_vars-good (anywhere before) (λ x y A B z w. w) sheet i [] e) b) (going o T U r)))

  -- Statement by statement.
  pub process_stmts_beside : (Start : List Stmt → Pairs)
      → ((st : Stmt) (stmts : List Stmt) → StmtCoupling sheet way way' st (Start (st ∷ stmts)) (Start stmts))
      → (stmts : List Stmt) (i : ℕ) {s u : State} → Beside (anywhere (Start stmts)) s u
      → Beside (anywhere (Start [])) (process_stmts sheet way i stmts s) (process_stmts sheet way' i stmts u)
  unfolding process_stmts
  process_stmts_beside Start h [] i b = b
  process_stmts_beside Start h (st ∷ stmts) i b =
      process_stmts_beside Start h stmts (suc i)
      (beside_turn (anywhere (Start (st ∷ stmts))) (anywhere (Start stmts)) (process_stmt sheet way i st) (process_stmt sheet way' i st)
      (process_stmt-good st (Start (st ∷ stmts)) (Start stmts) (h st stmts) i) b)
