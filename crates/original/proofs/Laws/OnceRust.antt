-- The code's way and the Rust's side by side: where each query stands at one place, a comprehension that the code's way skips is one whose
-- second analysis changes nothing in the table.
use mathlib.Core.Path.{◌≡◌, refl, sym, ap, ◌∙◌, subst, subst₂}
use mathlib.Core.Bool.{Bool, true, false, cond, not}
use mathlib.Core.List.Memᴰ
use mathlib.Core.List.{List, [], ◌∷◌, ◌++◌, map, foldl, append-nil, Memᴰ}
use mathlib.Core.Option.{Option, none, some}
use mathlib.Core.Logic.{inl, ⊎_elim}
use Prim.Native.Nat.{ℕ, zero, suc}
use lib.Dec.{eqb}
use lib.ListN.{length}
use Rattle.base.proofs.Laws.Truth.{and_right, or_right, not-both}
use Rattle.base.specs.Lists.{elem, concat_map, is_some}
use Rattle.sheet.specs.Sheet.{Sheet}
use Rattle.scope.specs.Trees.{Tree, row_of, outputs_of}
use Rattle.scope.specs.Traverse.{comprs}
use Rattle.scope.specs.Statements.{Stmt, stmts_of}
use Rattle.scope.specs.Scopes.{Scope, Span, add_unscoped, insert}
use Rattle.definition.specs.States.{Fault, sound, QuerySchedule, Run, State, schedule_of, scope_in, set_run}
use Rattle.definition.specs.Queries.{output_scope, analyze_query}
use Rattle.definition.specs.RustWay.{no_run, take, rust_way, analyze}
use Rattle.definition_once.specs.Inner.OnceWay.{Nested, unless_scheduled, analyze_compr, once_way, analyze_once}
use Rattle.original.specs.Inner.SameOuter.{SameOwn}
use Rattle.original.specs.Inner.Distinct.{distinct}
use Rattle.original.proofs.Laws.Distinct.{apart_sym, elem-left, elem_right, distinct-left, distinct_right, distinct_apart, elem-concat_map, distinct-part}
use Rattle.original.specs.Inner.Places.{stmt_comprs, body_of, compr_family, queries_named, family}
use Rattle.original.specs.Inner.Beside.{no_fault}
use Rattle.original.proofs.Laws.Beside.{Own, state_of, Tables, Beside, failed, going}
use Rattle.original.proofs.Laws.CoupledStmts.{StmtCoupling}
use Rattle.original.proofs.Laws.CoupledQuery
use Rattle.original.proofs.Laws.CoupledQuery.{OutputCoupling, QueriesEnded, ended, query-ended}
use Rattle.original.proofs.Laws.RustWrites.{take-sound, family-has, rust_only, rust_own}
use Rattle.original.proofs.Laws.LookUps.{SameTable, OnlyIn, HeldIn, same-behind, fresh_kept}
use Rattle.original.specs.Inner.LookUps.{Fresh}
use Rattle.original.proofs.Laws.Amid.{run_of, HeldAt, Amid, amid_again, amid_weaken, amid_held, amid_fresh}

-- What the code's run m and the Rust's run r of a query come to, where m began with the table T: one fault, or the same schedules.
pub data AgreeRuns (T : List QuerySchedule) (m r : Run) : Type 0 where
  stopped : m.fault ≡ r.fault → no_fault m.fault ≡ false → AgreeRuns T m r
  agreed : m.fault ≡ sound → r.fault ≡ sound → SameTable m.schedules (r.schedules ++ T) → AgreeRuns T m r

-- A run without fault, set.
set_run-sound : (r : Run) (o : Own) (T : List QuerySchedule) → r.fault ≡ sound → set_run r (state_of o T) ≡ state_of o r.schedules
unfolding set_run
set_run-sound r o T h =
    ap {B = State}
    (λ (f : Fault).
    record {
      scope = o.scope;
      first_uses = o.first_uses;
      definitions = o.definitions;
      run = record { schedules = r.schedules; fault = f };
    }) h

-- A comprehension whose run is held is skipped.
once-held : (levels : ℕ) (sheet : Sheet) (ps : List Scope) (e : Tree) (o : Own) (T : List QuerySchedule)
    → HeldIn (analyze levels sheet ps (row_of e).third (outputs_of e)) (row_of e).third T
    → analyze_compr (λ os q outputs r. analyze_once levels sheet os q outputs r) ps e (state_of o T) ≡ state_of o T
unfolding analyze_compr analyze_once set_run
once-held zero sheet ps e o T h = go (schedule_of T (row_of e).third)
  where
    go : (a : Option QuerySchedule) → unless_scheduled a (λ t. t) (state_of o T) ≡ state_of o T
    go none = refl
    go (some a) = refl
once-held (suc levels) sheet ps e o T h =
    go (schedule_of T (row_of e).third)
    (ap is_some h.look ∙ rust_own levels sheet ps (row_of e).third (outputs_of e) h.is_sound)
    (λ t. set_run (analyze_once (suc levels) sheet ps (row_of e).third (outputs_of e) t.run) t)
  where
    go : (a : Option QuerySchedule) → is_some a ≡ true → (f : State → State) → unless_scheduled a f (state_of o T) ≡ state_of o T
    go none n f = absurd (not-both n refl)
    go (some a) n f = refl

-- ---- the scope of outputs

-- The same names are added to unscoped.
own-add_unscoped : (xs : List ℕ) (a b : Scope) → SameOwn a b → SameOwn (foldl add_unscoped a xs) (foldl add_unscoped b xs)
unfolding add_unscoped
own-add_unscoped [] a b h = h
own-add_unscoped (x ∷ xs) a b h =
    own-add_unscoped xs (add_unscoped a x) (add_unscoped b x)
    (record { locals = h.locals; unscoped = ap (λ (s : ℕ → Bool). insert s x) h.unscoped })

-- So the scope of outputs depends on locals and unscoped alone, as far as these go.
pub own-output_scope : (a b : Scope) → SameOwn a b → SameOwn (output_scope a) (output_scope b)
unfolding output_scope
own-output_scope a b h =
    subst (λ (l : List Span). SameOwn (output_scope a) (foldl add_unscoped b (map (λ (p : Span). p.name) l))) h.locals
    (own-add_unscoped (map (λ (p : Span). p.name) a.locals) a b h)

-- ---- one level, with the claim for what stands below

module _ (levels : ℕ) (sheet : Sheet)
    (claim : (ps : List Scope) (q : ℕ) (outputs : List Tree) (T : List QuerySchedule) → distinct (family levels sheet q outputs) ≡ true
    → Fresh (family levels sheet q outputs) T
    → AgreeRuns T (analyze_once levels sheet ps q outputs (record { schedules = T; fault = sound })) (analyze levels sheet ps q outputs))
    (parents : List Scope) (T₀ : List QuerySchedule) where
  -- The code's analysis of what is nested.
  abbrev nested : Nested
  nested os q outputs r = analyze_once levels sheet os q outputs r

  -- The Rust's.
  abbrev answer : List Scope → ℕ → List Tree → Run
  answer os q outputs = analyze levels sheet os q outputs

  -- The run that the code's analysis of a fresh query gives, beside the Rust's.
  entered : (σ : Tables) (ps : List Scope) (q : ℕ) (ts : List Tree) (o : Own) (T U : List QuerySchedule) → distinct (family levels sheet q ts) ≡ true
      → Fresh (family levels sheet q ts) T
      → ((T₁ : List QuerySchedule) → (answer ps q ts).fault ≡ sound → SameTable T₁ ((answer ps q ts).schedules ++ T)
      → σ o.scope T₁ ((answer ps q ts).schedules ++ U))
      → Beside σ (set_run (nested ps q ts (record { schedules = T; fault = sound })) (state_of o T)) (take (answer ps q ts) (state_of o U))
  unfolding set_run take
  entered σ ps q ts o T U d f k = go (claim ps q ts T d f)
    where
      m : Run
      m = nested ps q ts (record { schedules = T; fault = sound })

      go : AgreeRuns T m (answer ps q ts) → Beside σ (set_run m (state_of o T)) (take (answer ps q ts) (state_of o U))
      go (stopped p h) = failed (set_run m (state_of o T)) (take (answer ps q ts) (state_of o U)) p h
      go (agreed s u now) =
          subst₂ (λ (a b : State). Beside σ a b) (sym (set_run-sound m o T s)) (sym (take-sound (answer ps q ts) o U u))
          (going o m.schedules ((answer ps q ts).schedules ++ U) (k m.schedules u now))

  -- Both analyse a comprehension, or the code's way skips it.
  enter : (C : List Tree) (P : List ℕ) (σ : Tables) (e : Tree) → Memᴰ e C → (K : List Tree) (sc : Scope) (o : Own) (T U : List QuerySchedule)
      → Amid levels sheet parents T₀ C P K sc T U → ((A B : List QuerySchedule) → Amid levels sheet parents T₀ C P (e ∷ K) sc A B → σ o.scope A B)
      → Beside σ (analyze_compr nested (sc ∷ parents) e (state_of o T)) (take (run_of levels sheet parents T₀ sc e) (state_of o U))
  unfolding analyze_compr
  enter C P σ e m K sc o T U r k =
      let cf = compr_family (family levels sheet) in
      let q = (row_of e).third in
      ⊎_elim
      (λ (f : Fresh (cf e) T).
      subst (λ (a : Option QuerySchedule).
      Beside σ (unless_scheduled a (λ t. set_run (nested (sc ∷ parents) q (outputs_of e) t.run) t) (state_of o T))
      (take (run_of levels sheet parents T₀ sc e) (state_of o U))) (sym (f q (family-has levels sheet q (outputs_of e))))
      (entered σ (sc ∷ parents) q (outputs_of e) o T U
      (distinct-part cf C (distinct-left (concat_map cf C) P r.apart) e m) f
      (λ T₁ s now. k T₁ ((run_of levels sheet parents T₀ sc e).schedules ++ U) (amid_fresh levels sheet parents T₀ C P K e m sc T U T₁ r f s now))))
      (λ (h : HeldAt levels sheet parents T₀ sc e T).
      subst₂ (λ (a b : State). Beside σ a b) (sym (once-held levels sheet (sc ∷ parents) e o T h))
      (sym (take-sound (run_of levels sheet parents T₀ sc e) o U h.is_sound))
      (going o T ((run_of levels sheet parents T₀ sc e).schedules ++ U)
      (k T ((run_of levels sheet parents T₀ sc e).schedules ++ U) (amid_held levels sheet parents T₀ C P K e m sc T U r h))))
      (r.status e m)

  -- ---- statements and outputs

  -- Before the statements that are left: what they and the outputs name is fresh.
  pub record Before (outputs : List Tree) (stmts : List Stmt) (T U : List QuerySchedule) : Type 0 where
    pub apart : distinct (queries_named (family levels sheet) sheet stmts outputs) ≡ true
    pub fresh : Fresh (queries_named (family levels sheet) sheet stmts outputs) T
    pub same : SameTable T (U ++ T₀)

  -- Both go through a statement.
  stmt_coupling : (outputs : List Tree) (st : Stmt) (stmts : List Stmt)
      → StmtCoupling sheet (once_way sheet nested parents) (rust_way sheet answer parents) st (Before outputs (st ∷ stmts)) (Before outputs stmts)
  unfolding rust_way queries_named
  stmt_coupling outputs st stmts =
      let cf = compr_family (family levels sheet) in
      let C = stmt_comprs sheet st in
      let bf : ℕ → List ℕ = λ b. family levels sheet b [] in
      let bodies = concat_map bf (body_of st.literal) in
      let rest = queries_named (family levels sheet) sheet stmts outputs in
      let P = bodies ++ rest in
      record {
        coupling = record {
          ρ = λ K sc T U. Amid levels sheet parents T₀ C P K sc T U;
          again = λ K sc sc' T U own r. amid_again levels sheet parents T₀ C P K sc sc' T U own r;
          weaken = λ K L w sc T U r. amid_weaken levels sheet parents T₀ C P K L w sc T U r;
          enter = λ e m K o T U r. enter C P (λ sc A B. Amid levels sheet parents T₀ C P (e ∷ K) sc A B) e m K o.scope o T U r (λ A B z. z);
          look = λ e K m o T U r. ap scope_in (r.known e m).1.look;
        };
        begin = λ sc T U r.
            record {
              apart = r.apart;
              fresh = λ x p. r.fresh x (elem_right x (concat_map cf C) P p);
              same = r.same;
              status = λ e m. inl (λ x p. r.fresh x (elem-left x (concat_map cf C) P (elem-concat_map cf C e m x p)));
              known = λ e m. absurd (Memᴰ.not-nil m);
            };
        done = λ h sc T U r.
            record {
              apart = distinct_right bodies rest (distinct_right (concat_map cf C) P r.apart);
              fresh = λ x p. r.fresh x (elem_right x bodies rest p);
              same = r.same;
            };
        body = λ inner query one o T U r.
            let F = family levels sheet query [] in
            let W = (answer (inner ∷ (o.scope ∷ parents)) query []).schedules in
            let whole : bodies ≡ F = ap (concat_map bf) one ∙ append-nil F in
            let d : distinct (F ++ rest) ≡ true =
            subst (λ (l : List ℕ). distinct (l ++ rest) ≡ true) whole (distinct_right (concat_map cf C) P r.apart) in
            let f : Fresh (F ++ rest) T = subst (λ (l : List ℕ). Fresh (l ++ rest) T) whole r.fresh in
            entered (λ sc A B. Before outputs stmts A B) (inner ∷ (o.scope ∷ parents)) query [] o T U (distinct-left F rest d)
            (λ x p. f x (elem-left x F rest p))
            (λ T₁ s now.
            let only : OnlyIn F W = rust_only levels sheet (inner ∷ (o.scope ∷ parents)) query [] s in
            record {
              apart = distinct_right F rest d;
              fresh = fresh_kept F W T T₁ only now rest (apart_sym F rest (distinct_apart F rest d)) (λ x p. f x (elem_right x F rest p));
              same = λ x. now x ∙ same-behind W T U T₀ r.same x;
            });
      }

  -- Both go through the outputs.
  output_coupling : (outputs : List Tree)
      → OutputCoupling (once_way sheet nested parents) (rust_way sheet answer parents) (concat_map comprs outputs)
  unfolding rust_way
  output_coupling outputs =
      let C = concat_map comprs outputs in
      record {
        ω = λ sc T U. Amid levels sheet parents T₀ C [] [] (output_scope sc) T U;
        known = λ e sc T U. Amid levels sheet parents T₀ C [] (e ∷ []) (output_scope sc) T U;
        again = λ e sc sc' T U own r.
            amid_again levels sheet parents T₀ C [] (e ∷ []) (output_scope sc) (output_scope sc') T U (own-output_scope sc sc' own) r;
        enter = λ e m o T U r.
            enter C [] (λ sc A B. Amid levels sheet parents T₀ C [] (e ∷ []) (output_scope sc) A B) e m [] (output_scope o.scope) o T U r (λ A B z. z);
        look = λ e o T U r. ap scope_in (r.known e (mathlib.Core.List.Memᴰ.head refl)).1.look;
        forget = λ e sc T U r. amid_weaken levels sheet parents T₀ C [] (e ∷ []) [] (λ d m. absurd (Memᴰ.not-nil m)) (output_scope sc) T U r;
      }

  -- After the statements the outputs begin.
  outputs-begin : (outputs : List Tree) (sc : Scope) (T U : List QuerySchedule) → Before outputs [] T U
      → Amid levels sheet parents T₀ (concat_map comprs outputs) [] [] sc T U
  unfolding queries_named
  outputs-begin outputs sc T U r =
      let cf = compr_family (family levels sheet) in
      let C = concat_map comprs outputs in
      record {
        apart = subst (λ (l : List ℕ). distinct l ≡ true) (sym (append-nil (concat_map cf C))) r.apart;
        fresh = λ x p. absurd (not-both p refl);
        same = r.same;
        status = λ e m. inl (λ x p. r.fresh x (elem-concat_map cf C e m x p));
        known = λ e m. absurd (Memᴰ.not-nil m);
      }

  -- Where both have ended, they agree.
  ended_agree : (outputs : List Tree) (q n : ℕ) {m r : Run}
      → QueriesEnded (λ sc T U. Amid levels sheet parents T₀ (concat_map comprs outputs) [] [] (output_scope sc) T U) q n m r → AgreeRuns T₀ m r
  ended_agree outputs q n (CoupledQuery.stopped m r p h) = stopped p h
  ended_agree outputs q n (ended o T U g) =
      let a : QuerySchedule = record { query = q; scope = o.scope; count = n; definitions = o.definitions } in
      agreed refl refl (λ x. ap (λ (b : Option QuerySchedule). cond (eqb q x) (some a) b) (g.same x))

  -- The claim, one level up.
  agree_more : (q : ℕ) (outputs : List Tree) → distinct (q ∷ queries_named (family levels sheet) sheet (stmts_of sheet q) outputs) ≡ true
      → Fresh (q ∷ queries_named (family levels sheet) sheet (stmts_of sheet q) outputs) T₀
      → AgreeRuns T₀ (analyze_query sheet (once_way sheet nested parents) q outputs (record { schedules = T₀; fault = sound }))
      (analyze_query sheet (rust_way sheet answer parents) q outputs no_run)
  unfolding rust_way output_coupling
  agree_more q outputs d f =
      let ns = queries_named (family levels sheet) sheet (stmts_of sheet q) outputs in
      ended_agree outputs q (length (stmts_of sheet q))
      (query-ended sheet (once_way sheet nested parents) (rust_way sheet answer parents) (λ arg. refl) refl (Before outputs) (stmt_coupling outputs) q
      outputs (output_coupling outputs) (λ sc T U r. outputs-begin outputs (output_scope sc) T U r) T₀ []
      (record { apart = and_right (not (elem q ns)) _ d; fresh = λ x p. f x (or_right (eqb x q) _ p); same = λ x. refl }))

-- The code's analysis of a query and the Rust's agree, where each query at and below it stands at one place and has no schedule yet.
pub analyze_agree : (levels : ℕ) (sheet : Sheet) (ps : List Scope) (q : ℕ) (outputs : List Tree) (T : List QuerySchedule)
    → distinct (family levels sheet q outputs) ≡ true → Fresh (family levels sheet q outputs) T
    → AgreeRuns T (analyze_once levels sheet ps q outputs (record { schedules = T; fault = sound })) (analyze levels sheet ps q outputs)
unfolding analyze_once analyze family
analyze_agree zero sheet ps q outputs T d f = agreed refl refl (λ x. refl)
analyze_agree (suc levels) sheet ps q outputs T d f =
    agree_more levels sheet (λ os b ts U. analyze_agree levels sheet os b ts U) ps T q outputs d f
