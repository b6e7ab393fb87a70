-- Comprehensions add no definition to the query that they stand in.
use mathlib.Core.List.{List, ◌∷◌, ◌++◌}
use mathlib.Core.Option.{Option, none, some}
use Prim.Native.Nat.{ℕ, suc}
use native.Mathlib.Omega.{arith}
use Rattle.sheet.specs.Sheet.{Sheet}
use Rattle.scope.specs.Trees.{Tree, row_of, outputs_of}
use Rattle.scope.specs.Traverse.{comprs}
use Rattle.scope.specs.Scopes.{Scope}
use Rattle.definition.specs.States.{QuerySchedule, Run, schedule_of, set_run, Way}
use Rattle.definition.specs.Comprs.{Mods, propagate, use_compr, process_compr, process_comprs, use_expr}
use Rattle.definition_once.specs.Inner.OnceWay.{Nested, unless_scheduled, analyze_compr, once_way}
use Rattle.definition_room.specs.Inner.Leaves.{bracket_vars}
use Rattle.definition_room.proofs.Laws.Adds.{AllFit, AddsDefinitions, Step, adds_no_definition, step_at-most, end, ◌⨾◌, adds_turn, turn_fold_none, adds_set_scope, adds_first_uses, adds_set_run}
use Rattle.definition_room.proofs.Laws.Using.{adds_gather_used_vars}

-- Query analysis at the next level leaves schedules that fit.
abbrev pub KeepsFit : Sheet → Nested → Type 0
KeepsFit sheet nested = (ps : List Scope) (q : ℕ) (outputs : List Tree) (r : Run) → AllFit sheet r → AllFit sheet (nested ps q outputs r)

module _ (sheet : Sheet) (way : Way) where
  pub adds_propagate : {k : ℕ} (sc : Scope) (e : Tree) → Step sheet k 0 (propagate sheet way sc e)
  unfolding propagate
  adds_propagate sc e s = adds_set_scope sheet _ s

  pub adds_use_compr : {k : ℕ} (e : Tree) → Step sheet k 0 (use_compr sheet way e)
  unfolding use_compr
  adds_use_compr e s = adds_first_uses sheet _ s

module _ (sheet : Sheet) (nested : Nested) (parents : List Scope) (keeps : KeepsFit sheet nested) where
  abbrev way : Way
  way = once_way sheet nested parents

  -- The definitions of a comprehension's query are its schedule's.
  pub adds_analyze_compr : {k : ℕ} (ps : List Scope) (e : Tree) → Step sheet k 0 (analyze_compr nested ps e)
  unfolding analyze_compr
  adds_analyze_compr {k} ps e s = go (schedule_of s.run.schedules (row_of e).third)
    where
      go : (a : Option QuerySchedule)
          → AddsDefinitions sheet k 0 s (unless_scheduled a (λ t. set_run (nested ps (row_of e).third (outputs_of e) t.run) t) s)
      go none = adds_set_run sheet s _ (keeps ps (row_of e).third (outputs_of e) s.run)
      go (some a) = adds_no_definition sheet s

  pub adds_process_comprs : {k : ℕ} (cs : List Tree) → Step sheet k 0 (process_comprs sheet way cs)
  unfolding process_comprs process_compr
  adds_process_comprs = turn_fold_none sheet (process_compr sheet way)
      (λ e s. adds_turn sheet (adds_analyze_compr (s.scope ∷ parents) e ⨾ (λ t. adds_propagate sheet way t.scope e t) ⨾ adds_use_compr sheet way e ⨾ end) s)

  -- An expression with its comprehensions adds what its brackets define.
  pub adds_use_expr : (i : ℕ) (extras : List ℕ) (m : Mods) (t : Tree) → Step sheet (suc i) (bracket_vars t) (use_expr sheet way i extras m t)
  unfolding use_expr
  adds_use_expr i extras m t =
      step_at-most sheet (bracket_vars t)
      (adds_turn sheet (adds_gather_used_vars sheet i extras t ⨾ adds_process_comprs (comprs t ++ m.comprs) ⨾ end)) (omega arith)
