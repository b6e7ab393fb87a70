-- Laws of `MoreLevels`.
use mathlib.Core.Path.{◌≡◌, refl, sym, ap, ap₂, ◌∙◌, subst, subst₂}
use mathlib.Core.List.Memᴰ
use mathlib.Core.List.{List, [], ◌∷◌, ◌++◌, Memᴰ}
use mathlib.Core.Logic.{⊎_elim}
use Prim.Native.Nat.{ℕ, zero, suc, ◌+◌}
use native.Mathlib.Omega.{arith}
use lib.ListN.{length}
use Rattle.base.specs.Lists.{concat_map}
use Rattle.sheet.specs.Sheet.{Sheet}
use Rattle.scope.specs.Trees.{Tree, row_of, outputs_of}
use Rattle.scope.specs.Traverse.{comprs}
use Rattle.scope.specs.Statements.{Stmt, stmts_of}
use Rattle.scope.specs.Scopes.{Scope}
use Rattle.definition.specs.States.{sound, QuerySchedule, Run, State, schedule_of, scope_in, set_run}
use Rattle.definition.specs.Queries.{output_scope, analyze_query}
use Rattle.original.specs.Inner.SameOuter.{SameOwn, below}
use Rattle.original.proofs.Laws.SameOuter.{same-outer}
use Rattle.definition.specs.RustWay.{no_run, take, rust_way, analyze}
use Rattle.original.proofs.Laws.RustSame.{analyze-same}
use Rattle.original.specs.Inner.Places.{stmt_comprs, body_of}
use Rattle.original.proofs.Laws.Members.{Among}
use Rattle.original.proofs.Laws.Beside.{Own, state_of, Tables, Beside, failed, going}
use Rattle.original.proofs.Laws.CoupledStmts.{StmtCoupling}
use Rattle.original.proofs.Laws.CoupledQuery as CoupledQuery
use Rattle.original.proofs.Laws.CoupledQuery.{OutputCoupling, QueriesEnded, ended, query-ended}
use Rattle.original.proofs.Laws.RustWrites.{take-sound}
use Rattle.original.proofs.Laws.OnceRust.{own-output_scope}
use Rattle.original.specs.Inner.MoreLevels.{Alike, stopped, same}

-- No query is met more than so many levels down from query q with these outputs, q counted.
abbrev pub EndsWithin : ℕ → Sheet → ℕ → List Tree → Type 0
EndsWithin zero sheet q outputs = ⊥
EndsWithin (suc n) sheet q outputs =
    ((st : Stmt) → Memᴰ st (stmts_of sheet q)
    → ((e : Tree) → Memᴰ e (stmt_comprs sheet st) → EndsWithin n sheet (row_of e).third (outputs_of e))
    × ((b : ℕ) → body_of st.literal ≡ b ∷ [] → EndsWithin n sheet b []))
    × ((e : Tree) → Memᴰ e (concat_map comprs outputs) → EndsWithin n sheet (row_of e).third (outputs_of e))

module _ (n m : ℕ) (sheet : Sheet)
    (claim : (ps : List Scope) (q : ℕ) (ts : List Tree) → EndsWithin n sheet q ts → Alike (analyze n sheet ps q ts) (analyze m sheet ps q ts))
    (parents : List Scope) where
  abbrev few : List Scope → ℕ → List Tree → Run
  few ps q ts = analyze n sheet ps q ts

  abbrev many : List Scope → ℕ → List Tree → Run
  many ps q ts = analyze m sheet ps q ts

  -- A run of each enters the table.
  entered : (σ : Tables) (ps : List Scope) (q : ℕ) (ts : List Tree) (o : Own) (T U : List QuerySchedule) → EndsWithin n sheet q ts
      → (few ps q ts ≡ many ps q ts → σ o.scope ((few ps q ts).schedules ++ T) ((many ps q ts).schedules ++ U))
      → Beside σ (take (few ps q ts) (state_of o T)) (take (many ps q ts) (state_of o U))
  unfolding take set_run
  entered σ ps q ts o T U ends k = go (claim ps q ts ends)
    where
      go : Alike (few ps q ts) (many ps q ts) → Beside σ (take (few ps q ts) (state_of o T)) (take (many ps q ts) (state_of o U))
      go (stopped p h) = failed (take (few ps q ts) (state_of o T)) (take (many ps q ts) (state_of o U)) p h
      go (same s e) =
          subst₂ (λ (a b : State). Beside σ a b) (sym (take-sound (few ps q ts) o T s))
          (sym (take-sound (many ps q ts) o U (sym (ap (λ (r : Run). r.fault) e) ∙ s)))
          (going o ((few ps q ts).schedules ++ T) ((many ps q ts).schedules ++ U) (k e))

  -- Amid the comprehensions C, with the statements to come: the tables are the same, and the runs of those in K.
  pub record Amid (C : List Tree) (stmts : List Stmt) (K : List Tree) (sc : Scope) (T U : List QuerySchedule) : Type 0 where
    pub tables : T ≡ U
    pub ends : (e : Tree) → Memᴰ e C → EndsWithin n sheet (row_of e).third (outputs_of e)
    pub known : (e : Tree) → Memᴰ e K → few (sc ∷ parents) (row_of e).third (outputs_of e) ≡ many (sc ∷ parents) (row_of e).third (outputs_of e)
    pub rest : (st : Stmt) → Memᴰ st stmts
        → ((e : Tree) → Memᴰ e (stmt_comprs sheet st) → EndsWithin n sheet (row_of e).third (outputs_of e))
        × ((b : ℕ) → body_of st.literal ≡ b ∷ [] → EndsWithin n sheet b [])

  again : (C : List Tree) (stmts : List Stmt) (K : List Tree) (sc sc' : Scope) (T U : List QuerySchedule) → SameOwn sc sc' → Amid C stmts K sc T U
      → Amid C stmts K sc' T U
  again C stmts K sc sc' T U own r = record {
    tables = r.tables;
    ends = r.ends;
    known = λ e k.
        let q = (row_of e).third in
        let ts = outputs_of e in
        sym (ap (λ (f : ℕ → List Tree → Run). f q ts) (analyze-same n sheet (below own (same-outer parents))))
        ∙ r.known e k ∙ ap (λ (f : ℕ → List Tree → Run). f q ts) (analyze-same m sheet (below own (same-outer parents)));
    rest = r.rest;
  }

  weaken : (C : List Tree) (stmts : List Stmt) (K L : List Tree) → Among L K → (sc : Scope) (T U : List QuerySchedule) → Amid C stmts K sc T U
      → Amid C stmts L sc T U
  weaken C stmts K L w sc T U r = record { tables = r.tables; ends = r.ends; known = λ e k. r.known e (w e k); rest = r.rest }

  enter : (C : List Tree) (stmts : List Stmt) (σ : Tables) (e : Tree) → Memᴰ e C → (K : List Tree) (sc : Scope) (o : Own) (T U : List QuerySchedule)
      → Amid C stmts K sc T U → ((A B : List QuerySchedule) → Amid C stmts (e ∷ K) sc A B → σ o.scope A B)
      → Beside σ (take (few (sc ∷ parents) (row_of e).third (outputs_of e)) (state_of o T)) (take (many (sc ∷ parents) (row_of e).third (outputs_of e)) (state_of o U))
  enter C stmts σ e i K sc o T U r k =
      entered σ (sc ∷ parents) (row_of e).third (outputs_of e) o T U (r.ends e i)
      (λ p. k _ _ (record {
        tables = ap₂ (λ (a : Run) (b : List QuerySchedule). a.schedules ++ b) p r.tables;
        ends = r.ends;
        known = λ d j.
            ⊎_elim
            (λ (z : d ≡ e). subst (λ (x : Tree). few (sc ∷ parents) (row_of x).third (outputs_of x) ≡ many (sc ∷ parents) (row_of x).third (outputs_of x)) (sym z) p)
            (λ (z : Memᴰ d K). r.known d z) (Memᴰ.cases_cons j);
        rest = r.rest;
      }))

  -- Before the statements that are left.
  pub record Before (stmts : List Stmt) (T U : List QuerySchedule) : Type 0 where
    pub tables : T ≡ U
    pub rest : (st : Stmt) → Memᴰ st stmts
        → ((e : Tree) → Memᴰ e (stmt_comprs sheet st) → EndsWithin n sheet (row_of e).third (outputs_of e))
        × ((b : ℕ) → body_of st.literal ≡ b ∷ [] → EndsWithin n sheet b [])

  stmt_coupling : (st : Stmt) (stmts : List Stmt)
      → StmtCoupling sheet (rust_way sheet few parents) (rust_way sheet many parents) st (Before (st ∷ stmts)) (Before stmts)
  unfolding rust_way
  stmt_coupling st stmts =
      let C = stmt_comprs sheet st in
      record {
        coupling = record {
          ρ = λ K sc T U. Amid C (st ∷ stmts) K sc T U;
          again = λ K sc sc' T U own r. again C (st ∷ stmts) K sc sc' T U own r;
          weaken = λ K L w sc T U r. weaken C (st ∷ stmts) K L w sc T U r;
          enter = λ e i K o T U r. enter C (st ∷ stmts) (λ sc A B. Amid C (st ∷ stmts) (e ∷ K) sc A B) e i K o.scope o T U r (λ A B z. z);
          look = λ e K i o T U r. ap (λ (a : Run). scope_in (schedule_of a.schedules (row_of e).third)) (r.known e i);
        };
        begin = λ sc T U r.
            record { tables = r.tables; ends = (r.rest st (Memᴰ.head refl)).0; known = λ e i. absurd (Memᴰ.not-nil i); rest = r.rest };
        done = λ h sc T U r. record { tables = r.tables; rest = λ s i. r.rest s (Memᴰ.tail i) };
        body = λ inner query one o T U r.
            entered (λ sc A B. Before stmts A B) (inner ∷ (o.scope ∷ parents)) query [] o T U ((r.rest st (Memᴰ.head refl)).1 query one)
            (λ p. record {
              tables = ap₂ (λ (a : Run) (b : List QuerySchedule). a.schedules ++ b) p r.tables;
              rest = λ s i. r.rest s (Memᴰ.tail i);
            });
      }

  output_coupling : (outputs : List Tree) → OutputCoupling (rust_way sheet few parents) (rust_way sheet many parents) (concat_map comprs outputs)
  unfolding rust_way
  output_coupling outputs =
      let C = concat_map comprs outputs in
      record {
        ω = λ sc T U. Amid C [] [] (output_scope sc) T U;
        known = λ e sc T U. Amid C [] (e ∷ []) (output_scope sc) T U;
        again = λ e sc sc' T U own r. again C [] (e ∷ []) (output_scope sc) (output_scope sc') T U (own-output_scope sc sc' own) r;
        enter = λ e i o T U r. enter C [] (λ sc A B. Amid C [] (e ∷ []) (output_scope sc) A B) e i [] (output_scope o.scope) o T U r (λ A B z. z);
        look = λ e o T U r. ap (λ (a : Run). scope_in (schedule_of a.schedules (row_of e).third)) (r.known e (Memᴰ.head refl));
        forget = λ e sc T U r. weaken C [] (e ∷ []) [] (λ d i. absurd (Memᴰ.not-nil i)) (output_scope sc) T U r;
      }

  ended_alike : (outputs : List Tree) (q k : ℕ) {r o : Run} → QueriesEnded (λ sc T U. Amid (concat_map comprs outputs) [] [] (output_scope sc) T U) q k r o → Alike r o
  ended_alike outputs q k (CoupledQuery.stopped r o p h) = stopped p h
  ended_alike outputs q k (ended o T U g) =
      same refl
      (ap (λ (l : List QuerySchedule).
      record { schedules = record { query = q; scope = o.scope; count = k; definitions = o.definitions } ∷ l; fault = sound }) g.tables)

  alike_more : (q : ℕ) (outputs : List Tree) → EndsWithin (suc n) sheet q outputs
      → Alike (analyze_query sheet (rust_way sheet few parents) q outputs no_run) (analyze_query sheet (rust_way sheet many parents) q outputs no_run)
  unfolding rust_way output_coupling
  alike_more q outputs ends =
      ended_alike outputs q (length (stmts_of sheet q))
      (query-ended sheet (rust_way sheet few parents) (rust_way sheet many parents) (λ arg. refl) refl Before stmt_coupling q outputs (output_coupling outputs)
      (λ sc T U r. record { tables = r.tables; ends = ends.1; known = λ e i. absurd (Memᴰ.not-nil i); rest = λ st i. absurd (Memᴰ.not-nil i) })
      [] [] (record { tables = refl; rest = ends.0 }))

-- With more levels than suffice the run is the same.
pub more-levels : (n k : ℕ) (sheet : Sheet) (ps : List Scope) (q : ℕ) (outputs : List Tree) → EndsWithin n sheet q outputs
    → Alike (analyze n sheet ps q outputs) (analyze (n + k) sheet ps q outputs)
unfolding analyze
more-levels n k sheet ps q outputs ends = go n (n + k) ps q outputs refl ends
  where
    go : (n m : ℕ) (ps : List Scope) (q : ℕ) (outputs : List Tree) → n + k ≡ m → EndsWithin n sheet q outputs → Alike (analyze n sheet ps q outputs) (analyze m sheet ps q outputs)
    go zero m ps q outputs e ends = absurd ends
    go (suc n) zero ps q outputs e ends = absurd (omega arith)
    go (suc n) (suc m) ps q outputs e ends =
        alike_more n m sheet (λ os b ts d. go n m os b ts (omega arith) d) ps q outputs ends
