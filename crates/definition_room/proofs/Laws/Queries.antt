-- Every query that is analysed records definitions of its statements alone, at most what it weighs, and for each statement at least one.
use mathlib.Core.Path.{◌≡◌, refl, sym, ap, ◌∙◌, subst}
use mathlib.Core.List.Memᴰ
use mathlib.Core.List.{List, [], ◌∷◌, foldl, Memᴰ}
use mathlib.Core.Logic.{⊎_elim}
use Prim.Native.Nat.{ℕ, zero, suc, ◌+◌, ◌<◌}
use native.Mathlib.Omega.{arith}
use lib.ListN.{length}
use Rattle.base.specs.Lists.{all}
use Rattle.base.specs.Limits.{nesting}
use Rattle.sheet.specs.Sheet.{Sheet}
use Rattle.scope.specs.Trees.{Tree}
use Rattle.scope.specs.Traverse.{comprs}
use Rattle.scope.specs.Statements.{Stmt, stmts_of}
use Rattle.scope.specs.Scopes.{Scope}
use Rattle.scope.specs.Gather.{gather_local_vars}
use Rattle.definition.specs.States.{Fault, sound, undefined, used_before, lengths, index_variable, QuerySchedule, Run, State, if_sound, Way}
use Rattle.definition.specs.Comprs.{propagate}
use Rattle.definition.specs.Queries.{process_stmts, output_scope, scheduled, output_compr, analyze_output_expr, analyze_query}
use Rattle.definition_once.specs.Inner.OnceWay.{Nested, analyze_compr, once_way, analyze_once, analyze_query_snippet_once}
use Rattle.definition_room.specs.Inner.Sizes.{total, weight}
use Rattle.definition_room.specs.Inner.Adds.{Recorded, below, FitsSchedule}
use Rattle.definition_room.proofs.Laws.Adds.{AllFit, AddsDefinitions, Step, adds_definitions_then, adds_below, end, ◌⨾◌, adds_turn, turn_fold_none}
use Rattle.definition_room.proofs.Laws.Recording.{recorded-stays}
use Rattle.definition_room.proofs.Laws.Comprs.{KeepsFit, adds_propagate, adds_analyze_compr}
use Rattle.definition_room.proofs.Laws.Statements.{adds_process_stmts}
use Rattle.definition_room.proofs.Laws.Sound.{Sound, turn-sound, fold-sound}
use Rattle.definition_room.proofs.Laws.Least.{recorded_stmts}

-- The analysis of a query starts with no definition.
abbrev pub start : Sheet → List Scope → ℕ → List Tree → Run → State
start sheet parents q outputs r =
    record { scope = gather_local_vars sheet parents (stmts_of sheet q) outputs; first_uses = []; definitions = []; run = r }

module _ (sheet : Sheet) (nested : Nested) (parents : List Scope) (keeps : KeepsFit sheet nested) where
  abbrev way : Way
  way = once_way sheet nested parents

  -- ---- outputs: nothing is added

  pub adds_analyze_output_expr : {k : ℕ} (t : Tree) → Step sheet k 0 (λ s. analyze_output_expr sheet way s t)
  unfolding analyze_output_expr output_compr
  adds_analyze_output_expr t = turn_fold_none sheet (output_compr sheet way)
      (λ e s. adds_turn sheet (adds_analyze_compr sheet nested parents keeps (output_scope s.scope ∷ parents) e ⨾ (λ u. adds_propagate sheet way (output_scope u.scope) e u) ⨾ end) s)
      (comprs t)

  output_sound : (s : State) (t : Tree) → Sound (analyze_output_expr sheet way s t) → Sound s
  unfolding analyze_output_expr output_compr
  output_sound s t =
      fold-sound (output_compr sheet way)
      (λ u e. turn-sound (analyze_compr nested (output_scope u.scope ∷ parents) e ∷ (λ v. propagate sheet way (output_scope v.scope) e v) ∷ []) u) (comprs t) s

  -- ---- a query

  -- The schedule that a query enters fits.
  query-fits : (q : ℕ) (outputs : List Tree) (r : Run) → AllFit sheet r → AllFit sheet (analyze_query sheet way q outputs r)
  unfolding analyze_query scheduled
  query-fits q outputs r h = go after.run.fault refl
    where
      stmts : List Stmt
      stmts = stmts_of sheet q

      body : State
      body = process_stmts sheet way 0 stmts (start sheet parents q outputs r)

      after : State
      after = foldl (analyze_output_expr sheet way) body outputs

      out : AddsDefinitions sheet (length stmts) 0 body after
      out = turn_fold_none sheet (analyze_output_expr sheet way) adds_analyze_output_expr outputs body

      added : AddsDefinitions sheet (length stmts) (total weight stmts + 0) (start sheet parents q outputs r) after
      added =
          adds_definitions_then sheet
          (adds_below sheet (length stmts) (adds_process_stmts sheet nested parents keeps stmts 0 (start sheet parents q outputs r)) (omega arith))
          out

      this : QuerySchedule
      this = record { query = q; scope = after.scope; count = length stmts; definitions = after.definitions }

      each : Sound after → (j : ℕ) → j < length stmts → Recorded j after.definitions
      each e j l =
          recorded-stays sheet out
          (recorded_stmts sheet nested parents keeps stmts 0 (start sheet parents q outputs r)
          (fold-sound (analyze_output_expr sheet way) output_sound outputs body e) j (omega arith) (omega arith))

      fits : Sound after → FitsSchedule sheet this
      fits e = record {
        whole = refl;
        stated = ap (all (below (length stmts))) added.appended ∙ added.low;
        at_most = omega (arith, ap length added.appended, added.few);
        at_least = each e;
      }

      go : (x : Fault) → after.run.fault ≡ x → AllFit sheet (if_sound x (scheduled q (length stmts) after) after.run)
      go sound e a m =
          ⊎_elim (λ (p : a ≡ this). subst (λ (b : QuerySchedule). FitsSchedule sheet b) (sym p) (fits e))
          (λ (t : Memᴰ a after.run.schedules). added.fit h a t) (Memᴰ.cases_cons m)
      go (undefined l c) e a m = added.fit h a m
      go (used_before l c) e a m = added.fit h a m
      go (lengths l c) e a m = added.fit h a m
      go index_variable e a m = added.fit h a m

-- ---- the analysis of a sheet

-- At every level the schedules fit.
pub analyze-fits : (levels : ℕ) (sheet : Sheet) → KeepsFit sheet (analyze_once levels sheet)
unfolding analyze_once
analyze-fits zero sheet ps q outputs r h = h
analyze-fits (suc levels) sheet ps q outputs r h =
    query-fits sheet (λ ps q outputs r. analyze_once levels sheet ps q outputs r) ps (analyze-fits levels sheet) q outputs r h

-- Every schedule of a sheet's analysis has definitions of its statements alone, at most as many as its query weighs, and one for each.
pub snippet_fits : (sheet : Sheet) → AllFit sheet (analyze_query_snippet_once sheet)
unfolding analyze_query_snippet_once
snippet_fits sheet =
    analyze-fits nesting sheet [] 1 [] (record { schedules = []; fault = sound }) (λ a m. absurd (Memᴰ.not-nil m))
