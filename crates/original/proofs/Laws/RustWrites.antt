-- What the Rust's analysis of a query writes: schedules of queries at and below it, and its own, if there is no fault.
use mathlib.Core.Path.{◌≡◌, refl, sym, ap, ◌∙◌, subst, subst₂}
use mathlib.Core.Bool.{Bool, true, false, cond}
use mathlib.Core.List.{List, [], ◌∷◌, ◌++◌}
use mathlib.Core.Option.{some}
use mathlib.Core.Logic.{◌⊎◌, inl, inr, ⊎_elim}
use Prim.Native.Nat.{ℕ, zero, suc}
use lib.Dec.{eqb}
use lib.ListN.{length}
use borrow.Author.Tests.{eq-eqb, ne_eqb}
use Rattle.base.proofs.Laws.Truth.{or_left, not-both}
use Rattle.base.specs.Lists.{elem, concat_map, is_some}
use Rattle.sheet.specs.Sheet.{Sheet}
use Rattle.scope.specs.Trees.{Tree, row_of, outputs_of}
use Rattle.scope.specs.Traverse.{comprs}
use Rattle.scope.specs.Statements.{Stmt, stmts_of}
use Rattle.scope.specs.Scopes.{Scope}
use Rattle.definition.specs.States.{Fault, sound, undefined, used_before, lengths, index_variable, QuerySchedule, Run, State, schedule_of, set_run}
use Rattle.definition.specs.Queries.{output_scope}
use Rattle.original.proofs.Laws.LookUps.{OnlyIn, only-append}
use Rattle.original.proofs.Laws.Distinct.{not-elem, elem-left, elem_right, elem-concat_map}
use Rattle.definition.specs.RustWay.{Answer, take, rust_way, analyze}
use Rattle.original.specs.Inner.Places.{stmt_comprs, body_of, compr_family, queries_named, family}
use Rattle.original.specs.Inner.Beside.{no_fault}
use Rattle.original.proofs.Laws.Beside.{Own, state_of, Tables, Beside, failed, going}
use Rattle.original.proofs.Laws.CoupledStmts.{StmtCoupling}
use Rattle.original.proofs.Laws.CoupledQuery.{OutputCoupling, QueriesEnded, stopped, ended, query-ended}

-- Each number on the first list is on the second.
abbrev pub Sub : List ℕ → List ℕ → Type 0
Sub k l = (x : ℕ) → elem x k ≡ true → elem x l ≡ true

-- No fault, or one.
pub failed_cases : (f : Fault) → (f ≡ sound) ⊎ (no_fault f ≡ false)
failed_cases sound = inl refl
failed_cases (undefined l c) = inr refl
failed_cases (used_before l c) = inr refl
failed_cases (lengths l c) = inr refl
failed_cases index_variable = inr refl

-- What a state is after a run without fault was taken in.
pub take-sound : (r : Run) (o : Own) (T : List QuerySchedule) → r.fault ≡ sound → take r (state_of o T) ≡ state_of o (r.schedules ++ T)
unfolding take set_run
take-sound r o T h =
    ap {B = State}
    (λ (f : Fault).
    record {
      scope = o.scope;
      first_uses = o.first_uses;
      definitions = o.definitions;
      run = record { schedules = r.schedules ++ T; fault = f };
    }) h

-- One run taken in on both sides.
take_beside : (ρ : Tables) (r : Run) (o : Own) (T U : List QuerySchedule)
    → (r.fault ≡ sound → ρ o.scope (r.schedules ++ T) (r.schedules ++ U)) → Beside ρ (take r (state_of o T)) (take r (state_of o U))
unfolding take set_run
take_beside ρ r o T U h =
    ⊎_elim
    (λ (e : r.fault ≡ sound).
    subst₂ (λ (a b : State). Beside ρ a b) (sym (take-sound r o T e)) (sym (take-sound r o U e))
    (going o (r.schedules ++ T) (r.schedules ++ U) (h e)))
    (λ (e : no_fault r.fault ≡ false). failed (take r (state_of o T)) (take r (state_of o U)) refl e) (failed_cases r.fault)

-- ---- one level, with the claim for what stands below

module _ (sheet : Sheet) (answer : Answer) (below : ℕ → List Tree → List ℕ)
    (claim : (ps : List Scope) (q : ℕ) (outputs : List Tree) → (answer ps q outputs).fault ≡ sound
    → OnlyIn (below q outputs) (answer ps q outputs).schedules)
    (parents : List Scope) (outputs : List Tree) (F : List ℕ) where
  -- The statements and outputs that are left name queries on F alone, and so does the table.
  pub record LeftToWrite (stmts : List Stmt) (T : List QuerySchedule) : Type 0 where
    pub names : Sub (queries_named below sheet stmts outputs) F
    pub only : OnlyIn F T

  -- A nested run writes on F alone.
  writes : (ps : List Scope) (q : ℕ) (ts : List Tree) (T : List QuerySchedule) → Sub (below q ts) F → OnlyIn F T → (answer ps q ts).fault ≡ sound
      → OnlyIn F ((answer ps q ts).schedules ++ T)
  writes ps q ts T sub only h =
      only-append F (answer ps q ts).schedules T (λ x n. claim ps q ts h x (not-elem x (below q ts) F (sub x) n)) only

  -- A statement keeps it so.
  stmt_coupling : (st : Stmt) (stmts : List Stmt)
      → StmtCoupling sheet (rust_way sheet answer parents) (rust_way sheet answer parents) st (λ T U. LeftToWrite (st ∷ stmts) T) (λ T U. LeftToWrite stmts T)
  unfolding rust_way queries_named
  stmt_coupling st stmts =
      let C = stmt_comprs sheet st in
      let bodies = concat_map (λ b. below b []) (body_of st.literal) in
      let rest = queries_named below sheet stmts outputs in
      record {
        coupling = record {
          ρ = λ K sc T U. LeftToWrite (st ∷ stmts) T;
          again = λ K sc sc' T U own r. r;
          weaken = λ K L w sc T U r. r;
          enter = λ e m K o T U r.
              take_beside (λ sc A B. LeftToWrite (st ∷ stmts) A) (answer (o.scope ∷ parents) (row_of e).third (outputs_of e)) o T U
              (λ h.
              record {
                names = r.names;
                only = writes (o.scope ∷ parents) (row_of e).third (outputs_of e) T
                    (λ x p.
                    r.names x
                    (elem-left x (concat_map (compr_family below) C) (bodies ++ rest)
                    (elem-concat_map (compr_family below) C e m x p))) r.only h;
              });
          look = λ e K m o T U r. refl;
        };
        begin = λ sc T U r. r;
        done = λ none sc T U r.
            record {
              names = λ x p. r.names x (elem_right x (concat_map (compr_family below) C) (bodies ++ rest) (elem_right x bodies rest p));
              only = r.only;
            };
        body = λ inner query one o T U r.
            take_beside (λ sc A B. LeftToWrite stmts A) (answer (inner ∷ (o.scope ∷ parents)) query []) o T U
            (λ h.
            record {
              names = λ x p. r.names x (elem_right x (concat_map (compr_family below) C) (bodies ++ rest) (elem_right x bodies rest p));
              only = writes (inner ∷ (o.scope ∷ parents)) query [] T
                  (λ x p.
                  r.names x
                  (elem_right x (concat_map (compr_family below) C) (bodies ++ rest)
                  (elem-left x bodies rest
                  (subst (λ (bs : List ℕ). elem x (concat_map (λ b. below b []) bs) ≡ true) (sym one) (elem-left x (below query []) [] p)))))
                  r.only h;
            });
      }

  -- And so do the outputs.
  output_coupling : OutputCoupling (rust_way sheet answer parents) (rust_way sheet answer parents) (concat_map comprs outputs)
  unfolding rust_way queries_named
  output_coupling = record {
    ω = λ sc T U. LeftToWrite [] T;
    known = λ e sc T U. LeftToWrite [] T;
    again = λ e sc sc' T U own r. r;
    enter = λ e m o T U r.
        take_beside (λ sc A B. LeftToWrite [] A) (answer (output_scope o.scope ∷ parents) (row_of e).third (outputs_of e)) o T U
        (λ h.
        record {
          names = r.names;
          only = writes (output_scope o.scope ∷ parents) (row_of e).third (outputs_of e) T
              (λ x p. r.names x (elem-concat_map (compr_family below) (concat_map comprs outputs) e m x p)) r.only h;
        });
    look = λ e o T U r. refl;
    forget = λ e sc T U r. r;
  }

-- A run of the query q has a schedule of q, and schedules of queries on F alone.
ended_writes : (sheet : Sheet) (answer : Answer) (below : ℕ → List Tree → List ℕ)
    (claim : (ps : List Scope) (q : ℕ) (outputs : List Tree) → (answer ps q outputs).fault ≡ sound
    → OnlyIn (below q outputs) (answer ps q outputs).schedules) (parents : List Scope) (outputs : List Tree) (F : List ℕ) (q n : ℕ) {r u : Run}
    → QueriesEnded (λ sc T U. LeftToWrite sheet answer below claim parents outputs F [] T) q n r u → elem q F ≡ true → r.fault ≡ sound
    → OnlyIn F r.schedules × (is_some (schedule_of r.schedules q) ≡ true)
ended_writes sheet answer below claim parents outputs F q n (stopped r u p h) m s = absurd (not-both refl (sym (ap no_fault s) ∙ h))
ended_writes sheet answer below claim parents outputs F q n (ended o T U l) m s =
    let a : QuerySchedule = record { query = q; scope = o.scope; count = n; definitions = o.definitions } in (
      λ x k.
          let ne : eqb q x ≡ false =
          ne_eqb q x (λ e. not-both m (ap (λ (y : ℕ). elem y F) e ∙ k))
          in
          ap (λ (b : Bool). cond b (some a) (schedule_of T x)) ne ∙ l.only x k,
      ap (λ (b : Bool). is_some (cond b (some a) (schedule_of T q))) (eq-eqb q q refl),
    )

-- A query stands in its family.
pub family-has : (levels : ℕ) (sheet : Sheet) (q : ℕ) (outputs : List Tree) → elem q (family levels sheet q outputs) ≡ true
unfolding family
family-has zero sheet q outputs = or_left (eqb q q) false (eq-eqb q q refl)
family-has (suc levels) sheet q outputs = or_left (eqb q q) _ (eq-eqb q q refl)

-- What one more level writes.
writes_more : (levels : ℕ) (sheet : Sheet)
    → ((ps : List Scope) (q : ℕ) (outputs : List Tree) → (analyze levels sheet ps q outputs).fault ≡ sound
    → OnlyIn (family levels sheet q outputs) (analyze levels sheet ps q outputs).schedules)
    → (ps : List Scope) (q : ℕ) (outputs : List Tree) → (analyze (suc levels) sheet ps q outputs).fault ≡ sound
    → OnlyIn (family (suc levels) sheet q outputs) (analyze (suc levels) sheet ps q outputs).schedules
    × (is_some (schedule_of (analyze (suc levels) sheet ps q outputs).schedules q) ≡ true)
unfolding analyze family output_coupling
writes_more levels sheet claim ps q outputs s =
    let answer : Answer = λ os b ts. analyze levels sheet os b ts in
    let below : ℕ → List Tree → List ℕ = λ b ts. family levels sheet b ts in
    let F = family (suc levels) sheet q outputs in
    let way = rust_way sheet answer ps in
    ended_writes sheet answer below claim ps outputs F q (length (stmts_of sheet q))
    (query-ended sheet way way (λ arg. refl) refl (λ stmts T U. LeftToWrite sheet answer below claim ps outputs F stmts T)
    (stmt_coupling sheet answer below claim ps outputs F) q outputs (output_coupling sheet answer below claim ps outputs F)
    (λ sc T U r. r) [] []
    (record { names = λ x p. elem_right x (q ∷ []) (queries_named below sheet (stmts_of sheet q) outputs) p; only = λ x n. refl }))
    (family-has (suc levels) sheet q outputs) s

-- The Rust's analysis of a query writes schedules of its family alone.
pub rust_only : (levels : ℕ) (sheet : Sheet) (ps : List Scope) (q : ℕ) (outputs : List Tree) → (analyze levels sheet ps q outputs).fault ≡ sound
    → OnlyIn (family levels sheet q outputs) (analyze levels sheet ps q outputs).schedules
unfolding analyze
rust_only zero sheet ps q outputs s x n = refl
rust_only (suc levels) sheet ps q outputs s x n =
    (writes_more levels sheet (λ os b ts h y k. rust_only levels sheet os b ts h y k) ps q outputs s).0 x n

-- With a level left, it writes the query's own.
pub rust_own : (levels : ℕ) (sheet : Sheet) (ps : List Scope) (q : ℕ) (outputs : List Tree) → (analyze (suc levels) sheet ps q outputs).fault ≡ sound
    → is_some (schedule_of (analyze (suc levels) sheet ps q outputs).schedules q) ≡ true
rust_own levels sheet ps q outputs s = (writes_more levels sheet (rust_only levels sheet) ps q outputs s).1
