-- The steps that analyse nested queries keep the own names of the scope too.
use mathlib.Core.Bool.{Bool, false, not}
use mathlib.Core.List.{List, [], ◌∷◌, ◌++◌, foldl}
use mathlib.Core.Option.{Option, none, some}
use Prim.Native.Nat.{ℕ}
use lib.Dec.{eqb}
use Rattle.base.specs.Lists.{filter}
use Rattle.order.specs.Definitions.{Definition}
use Rattle.sheet.specs.Sheet.{Sheet}
use Rattle.scope.specs.Trees.{Tree, row_of, outputs_of}
use Rattle.scope.specs.Traverse.{comprs}
use Rattle.scope.specs.Scopes.{Scope}
use Rattle.definition.specs.Uses.{assigned_vars, index_definitions}
use Rattle.definition.specs.States.{lengths, index_variable, QuerySchedule, State, schedule_of, set_run, Way}
use Rattle.definition.specs.Comprs.{Mods, all_used, process_compr, process_comprs, use_expr}
use Rattle.definition.specs.Exprs.{Pairing, pair, mismatch, assign_one_way, assign_pairing, process_plain_expr}
use Rattle.definition.specs.SomeIn.{fail_if_some, process_non_var}
use Rattle.definition.specs.Queries.{output_scope, output_compr, analyze_output_expr}
use Rattle.definition_once.specs.Inner.OnceWay.{Nested, unless_scheduled, analyze_compr, once_way}
use Rattle.definition_steps.proofs.Laws.Same.{SameScope, same_refl}
use Rattle.definition_steps.proofs.Laws.Keeps.{Keeps, end, ◌⨾◌, keeps_turn, keeps_fold, keeps_run, keeps_fail, keeps_gather_used_vars, keeps_check_assigned, keeps_record_one, keeps_record_each, keeps_propagate, keeps_use_compr}

module _ (sheet : Sheet) (nested : Nested) (parents : List Scope) where
  abbrev way : Way
  way = once_way sheet nested parents

  pub keeps_analyze_compr : (ps : List Scope) (e : Tree) → Keeps (analyze_compr nested ps e)
  unfolding analyze_compr
  keeps_analyze_compr ps e s = go (schedule_of s.run.schedules (row_of e).third)
    where
      go : (a : Option QuerySchedule) → SameScope s.scope (unless_scheduled a (λ t. set_run (nested ps (row_of e).third (outputs_of e) t.run) t) s).scope
      go none = keeps_run _ s
      go (some a) = same_refl s.scope

  pub keeps_process_compr : (e : Tree) → Keeps (λ s. process_compr sheet way s e)
  unfolding process_compr
  keeps_process_compr e s = keeps_turn (keeps_analyze_compr (s.scope ∷ parents) e ⨾ (λ t. keeps_propagate sheet way t.scope e t) ⨾ keeps_use_compr sheet way e ⨾ end) s

  pub keeps_process_comprs : (cs : List Tree) → Keeps (process_comprs sheet way cs)
  unfolding process_comprs
  keeps_process_comprs = keeps_fold (process_compr sheet way) keeps_process_compr

  pub keeps_use_expr : (i : ℕ) (extras : List ℕ) (m : Mods) (t : Tree) → Keeps (use_expr sheet way i extras m t)
  unfolding use_expr
  keeps_use_expr i extras m t = keeps_turn (keeps_gather_used_vars sheet i extras t ⨾ keeps_process_comprs (comprs t ++ m.comprs) ⨾ end)

  pub keeps_output_compr : (e : Tree) → Keeps (λ s. output_compr sheet way s e)
  unfolding output_compr
  keeps_output_compr e s = keeps_turn (keeps_analyze_compr (output_scope s.scope ∷ parents) e ⨾ (λ t. keeps_propagate sheet way (output_scope t.scope) e t) ⨾ end) s

  pub keeps_outputs : (outputs : List Tree) → Keeps (λ s. foldl (analyze_output_expr sheet way) s outputs)
  unfolding analyze_output_expr
  keeps_outputs =
      keeps_fold (analyze_output_expr sheet way) (λ t. keeps_fold (output_compr sheet way) keeps_output_compr (comprs t))

  module _ (i : ℕ) (m : Mods) where
    pub keeps_assign_one_way : (check : Bool) (target source : Tree) → Keeps (assign_one_way sheet way i m check target source)
    unfolding assign_one_way
    keeps_assign_one_way check target source =
        keeps_turn (keeps_use_expr i [] m source
        ⨾ keeps_check_assigned check target
        ⨾ (λ t. keeps_record_each i (assigned_vars t.scope target) (λ x. filter (λ y. not (eqb y x)) (all_used sheet way [] m source t)) t)
        ⨾ end)

    pub keeps_assign_pairing : (check : Bool) (p : Pairing) → Keeps (λ s. assign_pairing sheet way i m check s p)
    unfolding assign_pairing
    keeps_assign_pairing check (pair lhs rhs) = keeps_turn (keeps_assign_one_way check lhs rhs ⨾ keeps_assign_one_way false rhs lhs ⨾ end)
    keeps_assign_pairing check (mismatch v) = keeps_turn (keeps_fail (lengths v.line v.col) ⨾ end)

    pub keeps_assign_pairings : (check : Bool) (l : List Pairing) → Keeps (λ s. foldl (assign_pairing sheet way i m check) s l)
    keeps_assign_pairings check = keeps_fold (assign_pairing sheet way i m check) (keeps_assign_pairing check)

    pub keeps_process_plain_expr : (e : Tree) → Keeps (process_plain_expr sheet way i m e)
    unfolding process_plain_expr
    keeps_process_plain_expr e = keeps_turn (keeps_use_expr i [] m e ⨾ (λ t. keeps_record_one i 0 (all_used sheet way [] m e t) t) ⨾ end)

    pub keeps_process_non_var : (e : Tree) → Keeps (λ s. process_non_var sheet way i m s e)
    unfolding process_non_var
    keeps_process_non_var e =
        keeps_turn (keeps_gather_used_vars sheet i [] e
        ⨾ (λ t. failed t (index_definitions sheet t.scope [] i e))
        ⨾ keeps_process_comprs (comprs e ++ m.comprs)
        ⨾ end)
      where
        failed : (t : State) (defs : List Definition) → SameScope t.scope (fail_if_some defs t).scope
        failed t [] = same_refl t.scope
        failed t (d ∷ defs) = keeps_fail index_variable t

    pub keeps_process_non_vars : (l : List Tree) → Keeps (λ s. foldl (process_non_var sheet way i m) s l)
    keeps_process_non_vars = keeps_fold (process_non_var sheet way i m) keeps_process_non_var
