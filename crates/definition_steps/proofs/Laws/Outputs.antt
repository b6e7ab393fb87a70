-- The comprehensions of a query's outputs, as comprehensions of the scope that outputs stand in.
use mathlib.Core.Path.{◌≡◌, refl, sym, ap, ap₂, ◌∙◌, subst}
use mathlib.Core.List.{List, [], ◌∷◌, foldl, foldl-append}
use mathlib.Core.Option.{Option, none, some}
use Prim.Native.Nat.{ℕ}
use Rattle.base.specs.Lists.{concat_map}
use Rattle.sheet.specs.Sheet.{Sheet}
use Rattle.scope.specs.Trees.{Tree, row_of, outputs_of}
use Rattle.scope.specs.Traverse.{comprs}
use Rattle.scope.specs.Scopes.{Scope}
use Rattle.definition.specs.States.{Fault, sound, undefined, used_before, lengths, index_variable, QuerySchedule, Run, State, schedule_of, set_scope, add_first_uses, set_run, if_sound, Way}
use Rattle.definition.specs.Comprs.{propagate, use_compr, process_compr, process_comprs}
use Rattle.definition.specs.Queries.{output_scope, output_compr, analyze_output_expr}
use Rattle.definition_once.specs.Inner.OnceWay.{Nested, unless_scheduled, analyze_compr, once_way}
use Rattle.definition_state.specs.Inner.Frames.{guarded}
use Rattle.definition_steps.proofs.Laws.OutputScopes.{output_inputs, output_flag, risen, output_risen}

-- The outputs one after the other are their comprehensions one after the other.
pub outputs-comprs : (sheet : Sheet) (way : Way) (outputs : List Tree) (s : State)
    → foldl (analyze_output_expr sheet way) s outputs ≡ foldl (output_compr sheet way) s (concat_map comprs outputs)
unfolding analyze_output_expr
outputs-comprs sheet way [] s = refl
outputs-comprs sheet way (t ∷ outputs) s =
    outputs-comprs sheet way outputs (foldl (output_compr sheet way) s (comprs t))
    ∙ sym (foldl-append (output_compr sheet way) s (comprs t) (concat_map comprs outputs))

-- ---- two states side by side

-- The state u is s in the scope of outputs. First uses are of no account: outputs check none.
pub record OpenedState (s u : State) : Type 0 where
  pub scope : u.scope ≡ output_scope s.scope
  pub definitions : u.definitions ≡ s.definitions
  pub run : u.run ≡ s.run

unfoldable pub opened_state : State → State
opened_state s = set_scope (output_scope s.scope) s

pub opened_start : (s : State) → OpenedState s (opened_state s)
unfolding opened_state set_scope
opened_start s = record { scope = refl; definitions = refl; run = refl }

-- Their scopes differ in what is unscoped alone.
module _ {s u : State} (o : OpenedState s u) where
  pub opened_inputs : u.scope.inputs ≡ s.scope.inputs
  opened_inputs = ap (λ (a : Scope). a.inputs) o.scope ∙ output_inputs s.scope

  pub opened_flag : u.scope.uses_input ≡ s.scope.uses_input
  opened_flag = ap (λ (a : Scope). a.uses_input) o.scope ∙ output_flag s.scope

-- ---- a step of each

module _ {s u : State} (o : OpenedState s u) where
  opened_guarded : (f g : State → State) → OpenedState (f s) (g u) → OpenedState (guarded f s) (guarded g u)
  opened_guarded f g h = subst (λ (r : Run). OpenedState (guarded f s) (if_sound r.fault g u)) (sym o.run) (go s.run.fault)
    where
      go : (x : Fault) → OpenedState (if_sound x f s) (if_sound x g u)
      go sound = h
      go (undefined l c) = o
      go (used_before l c) = o
      go (lengths l c) = o
      go index_variable = o

  -- A step of the second alone.
  opened_beside : (g : State → State) → OpenedState s (g u) → OpenedState s (guarded g u)
  opened_beside g h = go u.run.fault
    where
      go : (x : Fault) → OpenedState s (if_sound x g u)
      go sound = h
      go (undefined l c) = o
      go (used_before l c) = o
      go (lengths l c) = o
      go index_variable = o

  opened_propagate : (sheet : Sheet) (nested : Nested) (parents : List Scope) (a b : Scope) (e : Tree)
      → OpenedState (propagate sheet (once_way sheet nested parents) a e s) (propagate sheet (once_way sheet nested parents) b e u)
  unfolding propagate set_scope
  opened_propagate sheet nested parents a b e = record {
    scope =
        ap₂ (λ (a : Scope) (r : Run). risen a (schedule_of r.schedules (row_of e).third)) o.scope o.run
        ∙ output_risen s.scope (schedule_of s.run.schedules (row_of e).third);
    definitions = o.definitions;
    run = o.run;
  }

  opened_use_compr : (sheet : Sheet) (way : Way) (e : Tree) → OpenedState s (use_compr sheet way e u)
  unfolding use_compr add_first_uses
  opened_use_compr sheet way e = record { scope = o.scope; definitions = o.definitions; run = o.run }

  opened_analyze_compr : (nested : Nested) (ps qs : List Scope) → qs ≡ ps → (e : Tree) → OpenedState (analyze_compr nested ps e s) (analyze_compr nested qs e u)
  unfolding analyze_compr set_run
  opened_analyze_compr nested ps qs is e =
      subst (λ (r : Run). OpenedState (unless_scheduled (schedule_of s.run.schedules q) (f ps) s) (unless_scheduled (schedule_of r.schedules q) (f qs) u))
      (sym o.run) (go (schedule_of s.run.schedules q))
    where
      q : ℕ
      q = (row_of e).third

      f : List Scope → State → State
      f ps t = set_run (nested ps q (outputs_of e) t.run) t

      go : (a : Option QuerySchedule) → OpenedState (unless_scheduled a (f ps) s) (unless_scheduled a (f qs) u)
      go none = record {
        scope = o.scope;
        definitions = o.definitions;
        run = ap₂ (λ (p : List Scope) (r : Run). nested p q (outputs_of e) r) is o.run;
      }
      go (some a) = o

-- ---- comprehensions of outputs beside those of the opened scope

module _ (sheet : Sheet) (nested : Nested) (parents : List Scope) where
  abbrev way : Way
  way = once_way sheet nested parents

  pub opened_compr : (s u : State) → OpenedState s u → (e : Tree) → OpenedState (output_compr sheet way s e) (process_compr sheet way u e)
  unfolding output_compr process_compr
  opened_compr s u o e =
      let here = analyze_compr nested (output_scope s.scope ∷ parents) e in
      let there = analyze_compr nested (u.scope ∷ parents) e in
      let one = opened_guarded o here there
      (opened_analyze_compr o nested (output_scope s.scope ∷ parents) (u.scope ∷ parents) (ap (λ (a : Scope). a ∷ parents) o.scope) e) in
      let two = opened_guarded one (λ t. propagate sheet way (output_scope t.scope) e t) (λ t. propagate sheet way t.scope e t)
      (opened_propagate one sheet nested parents _ _ e) in
      opened_beside two (use_compr sheet way e) (opened_use_compr two sheet way e)

  pub opened_comprs : (cs : List Tree) (s u : State) → OpenedState s u → OpenedState (foldl (output_compr sheet way) s cs) (process_comprs sheet way cs u)
  unfolding process_comprs
  opened_comprs [] s u o = o
  opened_comprs (e ∷ cs) s u o =
      opened_comprs cs (output_compr sheet way s e) (process_compr sheet way u e) (opened_compr s u o e)

  -- So the outputs of a query are the comprehensions in them, processed in the opened scope.
  pub opened_outputs : (outputs : List Tree) (s : State)
      → OpenedState (foldl (analyze_output_expr sheet way) s outputs) (process_comprs sheet way (concat_map comprs outputs) (opened_state s))
  opened_outputs outputs s =
      rw (outputs-comprs sheet way outputs s) (opened_comprs (concat_map comprs outputs) s (opened_state s) (opened_start s))
