-- Laws of `EveryInput`.
use mathlib.Core.Path.{◌≡◌, refl, sym, ap, ◌∙◌, subst}
use mathlib.Core.Bool.{true, false}
use mathlib.Core.List.{List, []}
use mathlib.Core.Logic.{⊎_elim}
use mathlib.Core.Option.{Option, none, some}
use Prim.Native.Nat.{ℕ}
use borrow.Author.Tests.{eqb-true}
use Rattle.base.proofs.Laws.Truth.{bool_cases, not-both}
use Rattle.sheet.specs.Sheet.{Sheet}
use Rattle.scope.specs.Trees.{Tree}
use Rattle.base.specs.Limits.{nesting}
use Rattle.base.proofs.Laws.ListLaws.{find-some}
use Rattle.scope.specs.Scopes.{empty, contains, Scope, var_exists}
use Rattle.scope.specs.Inner.Shadowed.{InputsFound}
use Rattle.definition.specs.States.{sound, QuerySchedule, Run, schedule_of, scope_in}
use Rattle.definition.specs.RustWay.{analyze, analyze_query_snippet}
use Rattle.definition_once.specs.Inner.OnceWay.{analyze_once, analyze_query_snippet_once, schedule_once}
use Rattle.original.proofs.Laws.Lists.{or_else, or_else-none}
use Rattle.original.specs.Inner.Distinct.{distinct}
use Rattle.original.specs.Inner.Places.{family}
use Rattle.original.specs.Inner.Beside.{no_fault}
use Rattle.original.specs.Inner.LookUps.{Fresh}
use Rattle.original.proofs.Laws.LookUps.{look_append}
use Rattle.original.proofs.Laws.RustWrites.{family-has}
use Rattle.original.proofs.Laws.OnceRust.{AgreeRuns, stopped, agreed, analyze_agree}
use Rattle.original.specs.Inner.QueryRepeats.{queries_once}
use Rattle.original.proofs.Laws.QueryRepeats.{rust_schedules}
use Rattle.original.specs.Inner.Around.{Around, outer}
use Rattle.original.specs.Inner.Placed.{PlacedSchedule, scope_after}
use Rattle.original.proofs.Laws.RustInputs.{rust_known, every-placed}
use Rattle.original.specs.Inner.EveryInput.{FoundAround}

-- A query is analysed below the scopes around it, and neither it nor one below it has a schedule yet: without a fault its inputs are found
-- in these scopes.
pub analyze-found : (levels : ℕ) (sheet : Sheet) (parents : List Scope) (q : ℕ) (outputs : List Tree) → Around sheet parents q outputs
    → (T : List QuerySchedule) → distinct (family levels sheet q outputs) ≡ true → Fresh (family levels sheet q outputs) T
    → (analyze_once levels sheet parents q outputs (record { schedules = T; fault = sound })).fault ≡ sound
    → InputsFound parents (scope_after (analyze_once levels sheet parents q outputs (record { schedules = T; fault = sound })) q)
analyze-found levels sheet parents q outputs at T d f s = go (analyze_agree levels sheet parents q outputs T d f)
  where
    m : Run
    m = analyze_once levels sheet parents q outputs (record { schedules = T; fault = sound })

    r : Run
    r = analyze levels sheet parents q outputs

    go : AgreeRuns T m r → InputsFound parents (scope_after m q)
    go (stopped p n) = absurd (not-both (ap no_fault s) n)
    go (agreed p n same) =
        subst (λ (o : Option QuerySchedule). InputsFound parents (scope_in o))
        (sym (same q ∙ look_append r.schedules T q
        ∙ ap (λ (o : Option QuerySchedule). or_else (schedule_of r.schedules q) o) (f q (family-has levels sheet q outputs))
        ∙ or_else-none (schedule_of r.schedules q)))
        ((rust_known levels sheet parents q outputs at).found n)

module _ (sheet : Sheet) (once : queries_once sheet ≡ true) (s : (analyze_query_snippet_once sheet).fault ≡ sound) where
  -- Each schedule of a sheet without fault: the scopes around its query, and its inputs found in them.
  pub schedule_placed : (q : ℕ) (a : QuerySchedule) → schedule_once sheet q ≡ some a → PlacedSchedule sheet a
  schedule_placed q a h =
      every-placed sheet a (find-some _ (analyze_query_snippet sheet).schedules (rust_schedules sheet once s q ∙ h)).0

  -- So each input of each query is found in a scope around the query.
  pub every_input_found : (q x : ℕ) → contains (scope_in (schedule_once sheet q)).inputs x ≡ true → FoundAround sheet q x
  unfolding contains empty
  every_input_found q x h = go (schedule_once sheet q) refl h
    where
      go : (o : Option QuerySchedule) → schedule_once sheet q ≡ o → contains (scope_in o).inputs x ≡ true → FoundAround sheet q x
      go none e i = absurd (not-both i refl)
      go (some a) e i =
          let p = schedule_placed q a e in
          let same : a.query ≡ q = eqb-true a.query q (find-some _ (analyze_query_snippet sheet).schedules (rust_schedules sheet once s q ∙ e)).1 in
          record {
            parents = p.parents;
            outputs = p.outputs;
            around = subst (λ (b : ℕ). Around sheet p.parents b p.outputs) same p.around;
            found = p.found x i;
          }

  -- The outer query has no inputs.
  pub outer_has_none : (x : ℕ) → contains (scope_in (schedule_once sheet 1)).inputs x ≡ false
  unfolding var_exists schedule_once analyze_query_snippet_once queries_once
  outer_has_none x =
      ⊎_elim
      (λ (h : contains (scope_in (schedule_once sheet 1)).inputs x ≡ true).
      absurd (not-both (analyze-found nesting sheet [] 1 [] outer [] once (λ y m. refl) s x h).exists refl))
      (λ (h : contains (scope_in (schedule_once sheet 1)).inputs x ≡ false). h) (bool_cases (contains (scope_in (schedule_once sheet 1)).inputs x))
