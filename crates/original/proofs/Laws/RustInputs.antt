-- A name is never in a query's inputs without being found in a scope around it: for the Rust's way to analyse, of any sheet, inputs that
-- rose from comprehensions included.
use mathlib.Core.Path.{◌≡◌, refl, sym, ap, ◌∙◌, subst}
use mathlib.Core.Bool.{Bool, false, cond}
use mathlib.Core.List.Memᴰ
use mathlib.Core.List.{List, [], ◌∷◌, ◌++◌, foldl}
use mathlib.Core.Logic.{⊎_elim}
use mathlib.Core.Option.{Option, some}
use Prim.Native.Nat.{ℕ, zero, suc}
use lib.ListN.{length}
use borrow.Author.Tests.{eq-eqb}
use Rattle.base.proofs.Laws.Truth.{not-both}
use Rattle.base.specs.Lists.{filter}
use Rattle.base.specs.Limits.{nesting}
use Rattle.sheet.specs.Sheet.{Sheet}
use Rattle.scope.specs.Trees.{Tree, row_of, chain, outputs_of}
use Rattle.scope.specs.Traverse.{vars}
use Rattle.scope.specs.Statements.{stmts_of}
use Rattle.scope.specs.Scopes.{contains, empty, elements, Scope, no_scope, owns, add_local, add_input, use_input}
use Rattle.scope.specs.Gather.{gather_assigned_vars, gather_local_vars}
use Rattle.scope.specs.Inner.Shadowed.{InputsFound}
use Rattle.scope.proofs.Laws.Shadowed.{inputs-found}
use Rattle.definition.specs.States.{Fault, sound, QuerySchedule, Run, State, schedule_of, scope_in, set_run, if_sound}
use Rattle.definition.specs.Queries.{output_scope, scheduled, analyze_output_expr, analyze_query, process_stmts}
use Rattle.definition.specs.Comprs.{propagate}
use Rattle.definition.specs.RustWay.{no_run, Answer, take, rust_way, analyze, analyze_query_snippet}
use Rattle.original.proofs.Laws.RustWrites.{failed_cases}
use Rattle.original.specs.Inner.Beside.{no_fault}
use Rattle.original.proofs.Laws.Beside.{if_sound-failed}
use Rattle.original.proofs.Laws.Outside.{flag-found, unscoped-found, foreign}
use Rattle.original.proofs.Laws.Rising.{rise_found}
use Rattle.definition.proofs.Laws.OutputOwns.{output_owns}
use Rattle.original.specs.Inner.Around.{ScopeOf, gathered, flagged, bound, Around, outer, in_stmt, in_output, in_every}
use Rattle.original.proofs.Laws.Around.{all-risen}
use Rattle.original.specs.Inner.Placed.{AllPlaced, scope_after, KnownRun}
use Rattle.original.proofs.Laws.Placed.{placed-append, placed-cons}
use Rattle.original.proofs.Laws.Steps.{HoldsScope, Safe, good_two, safe_scope, safe_run}
use Rattle.original.proofs.Laws.WayKept.{KeptByWay, safe_stmts, safe_outputs}

-- What the query's scope has while it is analysed.
pub record ScopeSoFar (sheet : Sheet) (parents : List Scope) (q : ℕ) (outputs : List Tree) (sc : Scope) : Type 0 where
  pub found : InputsFound parents sc
  pub of : ScopeOf sheet parents q outputs sc

-- ---- one level, with the claim for what stands below

module _ (sheet : Sheet) (answer : Answer)
    (claim : (ps : List Scope) (b : ℕ) (ts : List Tree) → Around sheet ps b ts → KnownRun sheet ps b (answer ps b ts))
    (parents : List Scope) (q : ℕ) (outputs : List Tree) (at : Around sheet parents q outputs) where
  -- What its scope has.
  abbrev S : Scope → Type 0
  S sc = ScopeSoFar sheet parents q outputs sc

  -- A run enters the table.
  take-holds : (ps : List Scope) (b : ℕ) (ts : List Tree) → Around sheet ps b ts → Safe S (AllPlaced sheet) (take (answer ps b ts))
  unfolding take
  take-holds ps b ts h s o =
      safe_run S (AllPlaced sheet) (record { schedules = (answer ps b ts).schedules ++ s.run.schedules; fault = (answer ps b ts).fault })
      (placed-append sheet (answer ps b ts).schedules s.run.schedules (claim ps b ts h).placed o.table) s o

  -- What a comprehension takes rises, from below a scope p that owns no more than the query's.
  rises : (p : Scope) (e : Tree) → Around sheet (p ∷ parents) (row_of e).third (outputs_of e)
      → (answer (p ∷ parents) (row_of e).third (outputs_of e)).fault ≡ sound
      → (s : State) → ((x : ℕ) → owns s.scope x ≡ false → owns p x ≡ false) → HoldsScope S (AllPlaced sheet) s
      → HoldsScope S (AllPlaced sheet) (propagate sheet (rust_way sheet answer parents) p e s)
  unfolding propagate rust_way
  rises p e h f s n o =
      let c = scope_after (answer (p ∷ parents) (row_of e).third (outputs_of e)) (row_of e).third in
      let xs = filter (foreign s.scope) (elements c.inputs) in
      safe_scope S (AllPlaced sheet) (foldl add_input (use_input c.uses_input s.scope) xs)
      (record {
        found = rise_found parents p s.scope c n ((claim (p ∷ parents) (row_of e).third (outputs_of e) h).found f) o.here.found;
        of = all-risen sheet parents q outputs xs (use_input c.uses_input s.scope) (flagged s.scope c.uses_input o.here.of);
      }) s o

  -- So the Rust's way keeps it.
  way-kept : KeptByWay sheet (rust_way sheet answer parents) (stmts_of sheet q) outputs S (AllPlaced sheet)
  unfolding rust_way take set_run
  way-kept = record {
    flag = λ sc b h. record { found = flag-found parents sc b h.found; of = flagged sc b h.of };
    extra = λ st m e arg is has sc h.
        record {
          found = unscoped-found parents (elements (gather_assigned_vars sheet parents false arg no_scope).unscoped) sc h.found;
          of = bound st m e arg is has sc h.of;
        };
    compr = λ st m e n s o.
        let below = in_stmt parents q outputs at s.scope o.here.of st m e n in
        let t = take-holds (s.scope ∷ parents) (row_of e).third (outputs_of e) below s o in
        good_two S (AllPlaced sheet) (take (answer (s.scope ∷ parents) (row_of e).third (outputs_of e)))
        (λ u. propagate sheet (rust_way sheet answer parents) u.scope e u) s o t
        (λ f. rises s.scope e below f (take (answer (s.scope ∷ parents) (row_of e).third (outputs_of e)) s) (λ x n. n) t);
    output = λ e n s o.
        let p = output_scope s.scope in
        let below = in_output parents q outputs at s.scope o.here.of e n in
        let t = take-holds (p ∷ parents) (row_of e).third (outputs_of e) below s o in
        good_two S (AllPlaced sheet) (take (answer (p ∷ parents) (row_of e).third (outputs_of e)))
        (λ u. propagate sheet (rust_way sheet answer parents) (output_scope u.scope) e u) s o t
        (λ f. rises p e below f (take (answer (p ∷ parents) (row_of e).third (outputs_of e)) s) (output_owns s.scope) t);
    body = λ st m key value domain b is s o.
        take-holds (foldl add_local no_scope (vars (chain key ++ chain value)) ∷ (s.scope ∷ parents)) b []
        (in_every parents q outputs at s.scope o.here.of st m key value domain b is) s o;
  }

  -- The state in which the query's analysis ends.
  abbrev last : State
  last =
      foldl (analyze_output_expr sheet (rust_way sheet answer parents))
      (process_stmts sheet (rust_way sheet answer parents) 0 (stmts_of sheet q)
      (record { scope = gather_local_vars sheet parents (stmts_of sheet q) outputs; first_uses = []; definitions = []; run = no_run })) outputs

  -- It has both.
  last-holds : HoldsScope S (AllPlaced sheet) last
  last-holds =
      let begin : State = record { scope = gather_local_vars sheet parents (stmts_of sheet q) outputs; first_uses = []; definitions = []; run = no_run } in
      safe_outputs sheet (rust_way sheet answer parents) (stmts_of sheet q) outputs S (AllPlaced sheet) way-kept _
      (safe_stmts sheet (rust_way sheet answer parents) (stmts_of sheet q) outputs S (AllPlaced sheet) way-kept (stmts_of sheet q) (λ st m. m) 0 begin
      (record {
        here = record { found = inputs-found sheet parents (stmts_of sheet q) outputs; of = gathered };
        table = λ a m. absurd (Memᴰ.not-nil m);
      }))

-- A run that ends in the state s: its schedules are placed, and the query's inputs are found.
ended-known : (sheet : Sheet) (levels : ℕ) (parents : List Scope) (q : ℕ) (outputs : List Tree) → Around sheet parents q outputs → (n : ℕ) (s : State)
    → HoldsScope (ScopeSoFar sheet parents q outputs) (AllPlaced sheet) s
    → analyze levels sheet parents q outputs ≡ if_sound s.run.fault (scheduled q n s) s.run
    → KnownRun sheet parents q (analyze levels sheet parents q outputs)
unfolding scheduled
ended-known sheet levels parents q outputs at n s o r =
    ⊎_elim
    (λ (e : s.run.fault ≡ sound).
    let is : analyze levels sheet parents q outputs ≡ record { schedules = a ∷ s.run.schedules; fault = sound } =
    r ∙ ap (λ (f : Fault). if_sound f (scheduled q n s) s.run) e in
    let look : schedule_of (analyze levels sheet parents q outputs).schedules q ≡ some a =
    ap (λ (u : Run). schedule_of u.schedules q) is
    ∙ ap (λ (b : Bool). cond b (some a) (schedule_of s.run.schedules q)) (eq-eqb q q refl) in
    record {
      placed = subst (λ (u : Run). AllPlaced sheet u.schedules) (sym is)
          (placed-cons sheet a s.run.schedules
          (record { levels = levels; parents = parents; outputs = outputs; around = at; gave = look; found = o.here.found }) o.table);
      found = λ f. subst (λ (b : Option QuerySchedule). InputsFound parents (scope_in b)) (sym look) o.here.found;
    })
    (λ (e : no_fault s.run.fault ≡ false).
    let is : analyze levels sheet parents q outputs ≡ s.run = r ∙ if_sound-failed s.run.fault e (scheduled q n s) s.run in
    record {
      placed = subst (λ (u : Run). AllPlaced sheet u.schedules) (sym is) o.table;
      found = λ f. absurd (not-both (sym (ap (λ (u : Run). no_fault u.fault) is) ∙ ap no_fault f) e);
    }) (failed_cases s.run.fault)
  where
    a : QuerySchedule
    a = record { query = q; scope = s.scope; count = n; definitions = s.definitions }

-- The empty scope has no inputs.
none_found : (parents : List Scope) → InputsFound parents no_scope
unfolding contains empty
none_found parents x h = absurd (not-both h refl)

-- The Rust's analysis of a query, below the scopes around it.
pub rust_known : (levels : ℕ) (sheet : Sheet) (parents : List Scope) (q : ℕ) (outputs : List Tree) → Around sheet parents q outputs
    → KnownRun sheet parents q (analyze levels sheet parents q outputs)
unfolding analyze analyze_query rust_way
rust_known zero sheet parents q outputs at = record { placed = λ a m. absurd (Memᴰ.not-nil m); found = λ f. none_found parents }
rust_known (suc levels) sheet parents q outputs at =
    let answer : Answer = λ ps b ts. analyze levels sheet ps b ts in
    ended-known sheet (suc levels) parents q outputs at (length (stmts_of sheet q)) (last sheet answer (λ ps b ts h. rust_known levels sheet ps b ts h) parents q outputs at)
    (last-holds sheet answer (λ ps b ts h. rust_known levels sheet ps b ts h) parents q outputs at) refl

-- Every schedule of a sheet's analysis.
pub every-placed : (sheet : Sheet) → AllPlaced sheet (analyze_query_snippet sheet).schedules
unfolding analyze_query_snippet
every-placed sheet = (rust_known nesting sheet [] 1 [] outer).placed
