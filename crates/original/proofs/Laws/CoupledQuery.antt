-- Two ways to analyse go side by side through the outputs of a query, and so through the query.
use mathlib.Core.Path.{◌≡◌, sym, ap, ◌∙◌, subst, subst₂}
use mathlib.Core.Bool.{false, not}
use mathlib.Core.List.{List, [], ◌∷◌, foldl, Memᴰ}
use Prim.Native.Nat.{ℕ}
use lib.ListN.{length}
use Rattle.base.specs.Lists.{filter, concat_map}
use Rattle.sheet.specs.Sheet.{Sheet}
use Rattle.scope.specs.Trees.{Tree}
use Rattle.scope.specs.Traverse.{comprs}
use Rattle.scope.specs.Statements.{Stmt, stmts_of}
use Rattle.scope.specs.Scopes.{elements, Scope, owns, add_input, use_input}
use Rattle.definition.specs.States.{sound, QuerySchedule, Run, State, if_sound, Way}
use Rattle.definition.specs.Queries.{output_scope, scheduled, output_compr, analyze_output_expr, analyze_query, process_stmts}
use Rattle.original.specs.Inner.SameOuter.{SameOwn}
use Rattle.definition.specs.Comprs.{propagate}
use Rattle.original.proofs.Laws.Members.{Among, mem_concat_map}
use Rattle.original.specs.Inner.Beside.{no_fault}
use Rattle.original.proofs.Laws.Beside.{Own, state_of, Tables, Beside, failed, going, GoodBeside, if_sound-failed, turn_at, beside_turn, beside_map, fold_beside, own-use_input, own_add_inputs, set_scope_beside}
use Rattle.original.proofs.Laws.CoupledStmts.{Pairs, anywhere, StmtCoupling, process_stmts_beside}

-- What is asked at the comprehensions C of the outputs.
pub record OutputCoupling (way way' : Way) (C : List Tree) : Type 1 where
  pub ω : Tables
  pub known : Tree → Tables
  pub again : (e : Tree) (sc sc' : Scope) (T U : List QuerySchedule) → SameOwn sc sc' → known e sc T U → known e sc' T U
  pub enter : (e : Tree) → Memᴰ e C
      → GoodBeside ω (known e) (λ s. way.compr (output_scope s.scope) e s) (λ s. way'.compr (output_scope s.scope) e s)
  pub look : (e : Tree) (o : Own) (T U : List QuerySchedule) → known e o.scope T U
      → way.compr_scope (output_scope o.scope) (state_of o T) e ≡ way'.compr_scope (output_scope o.scope) (state_of o U) e
  pub forget : (e : Tree) (sc : Scope) (T U : List QuerySchedule) → known e sc T U → ω sc T U

-- How two runs of a query end: with one fault, or with one schedule of the query in front of related tables.
pub data QueriesEnded (ω : Tables) (q n : ℕ) : Run → Run → Type 0 where
  stopped : (r r' : Run) → r.fault ≡ r'.fault → no_fault r.fault ≡ false → QueriesEnded ω q n r r'
  ended : (o : Own) (T U : List QuerySchedule) → ω o.scope T U
      → QueriesEnded ω q n
      (record { schedules = record { query = q; scope = o.scope; count = n; definitions = o.definitions } ∷ T; fault = sound })
      (record { schedules = record { query = q; scope = o.scope; count = n; definitions = o.definitions } ∷ U; fault = sound })

module _ (sheet : Sheet) (way way' : Way) where
  module _ (C : List Tree) (c : OutputCoupling way way' C) where
    -- What a known comprehension propagates.
    propagate-good : (e : Tree)
        → GoodBeside (c.known e) (c.known e) (λ t. propagate sheet way (output_scope t.scope) e t)
        (λ t. propagate sheet way' (output_scope t.scope) e t)
    unfolding propagate
    propagate-good e o T U r =
        let F : Scope → Scope = λ x.
        foldl add_input (use_input x.uses_input o.scope) (filter (λ y. not (owns o.scope y)) (elements x.inputs)) in
        let x = way.compr_scope (output_scope o.scope) (state_of o T) e in
        set_scope_beside (c.known e) (c.again e) (F x) (F (way'.compr_scope (output_scope o.scope) (state_of o U) e))
        (ap F (c.look e o T U r)) o T U
        (c.again e o.scope (F x) T U
        (own_add_inputs o.scope (filter (λ y. not (owns o.scope y)) (elements x.inputs)) (use_input x.uses_input o.scope)
        (own-use_input x.uses_input o.scope)) r)

    -- A comprehension of an output.
    output_compr_beside : (e : Tree) → Memᴰ e C → {s u : State} → Beside c.ω s u
        → Beside c.ω (output_compr sheet way s e) (output_compr sheet way' u e)
    unfolding output_compr
    output_compr_beside e m b =
        beside_map (c.known e) c.ω (c.forget e)
        (beside_turn (c.known e) (c.known e) (λ t. propagate sheet way (output_scope t.scope) e t)
        (λ t. propagate sheet way' (output_scope t.scope) e t) (propagate-good e)
        (turn_at c.ω (c.known e) (λ s. way.compr (output_scope s.scope) e) (λ s. way'.compr (output_scope s.scope) e) (c.enter e m) b))

    -- The outputs, in order.
    outputs_beside : (outputs : List Tree) → Among (concat_map comprs outputs) C → {s u : State} → Beside c.ω s u
        → Beside c.ω (foldl (analyze_output_expr sheet way) s outputs) (foldl (analyze_output_expr sheet way') u outputs)
    unfolding analyze_output_expr
    outputs_beside outputs h b =
        fold_beside c.ω (analyze_output_expr sheet way) (analyze_output_expr sheet way') outputs
        (λ t m s u b'.
        fold_beside c.ω (output_compr sheet way) (output_compr sheet way') (comprs t)
        (λ e n s' u' b''. output_compr_beside e (h e (mem_concat_map comprs outputs t m e n)) b'') b') b

  -- States side by side end side by side.
  ended_of : (ω : Tables) (q n : ℕ) {s u : State} → Beside ω s u
      → QueriesEnded ω q n (if_sound s.run.fault (scheduled q n s) s.run) (if_sound u.run.fault (scheduled q n u) u.run)
  unfolding scheduled
  ended_of ω q n (failed s u p h) =
      subst₂ (λ (a b : Run). QueriesEnded ω q n a b) (sym (if_sound-failed s.run.fault h (scheduled q n s) s.run))
      (sym (if_sound-failed u.run.fault (sym (ap no_fault p) ∙ h) (scheduled q n u) u.run)) (stopped s.run u.run p h)
  ended_of ω q n (going o T U r) = ended o T U r

  -- Two ways that start alike and go side by side end side by side.
  pub query-ended : (extras : (arg : Tree) → way.extra_vars arg ≡ way'.extra_vars arg) → way.start ≡ way'.start → (Start : List Stmt → Pairs)
      → ((st : Stmt) (stmts : List Stmt) → StmtCoupling sheet way way' st (Start (st ∷ stmts)) (Start stmts)) → (q : ℕ) (outputs : List Tree)
      (c : OutputCoupling way way' (concat_map comprs outputs)) → ((sc : Scope) (T U : List QuerySchedule) → Start [] T U → c.ω sc T U)
      → (T U : List QuerySchedule) → Start (stmts_of sheet q) T U
      → QueriesEnded c.ω q (length (stmts_of sheet q)) (analyze_query sheet way q outputs (record { schedules = T; fault = sound }))
      (analyze_query sheet way' q outputs (record { schedules = U; fault = sound }))
  unfolding analyze_query
  query-ended extras starts Start steps q outputs c last T U r =
      let stmts = stmts_of sheet q in
      let own : Own = record { scope = way.start stmts outputs; first_uses = []; definitions = [] } in
      let F : Scope → Run = λ sc.
      let begin : State = record { scope = sc; first_uses = []; definitions = []; run = record { schedules = U; fault = sound } } in
      let s = foldl (analyze_output_expr sheet way') (process_stmts sheet way' 0 stmts begin) outputs in
      if_sound s.run.fault (scheduled q (length stmts) s) s.run in
      subst
      (λ (sc : Scope).
      QueriesEnded c.ω q (length stmts) (analyze_query sheet way q outputs (record { schedules = T; fault = sound })) (F sc))
      (ap (λ (f : List Stmt → List Tree → Scope). f stmts outputs) starts)
      (ended_of c.ω q (length stmts)
      (outputs_beside (concat_map comprs outputs) c outputs (λ e m. m)
      (beside_map (anywhere (Start [])) c.ω last
      (process_stmts_beside sheet way way' extras Start steps stmts 0 (going own T U r)))))
