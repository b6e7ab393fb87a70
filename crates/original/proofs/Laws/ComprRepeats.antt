-- A comprehension that is handed out more than once, as the walk at a bracket does: processed again in the Rust's way, it changes nothing of
-- the query's scope, its first uses and the fault.
use mathlib.Core.Path.{◌≡◌, refl, sym, ap, ap₂, ◌∙◌, subst}
use mathlib.Core.Bool.{Bool, false, not, ◌||◌}
use mathlib.Core.List.{List, [], ◌∷◌, ◌++◌, foldl, foldl-append, append-nil}
use mathlib.Core.Logic.{⊎_elim}
use Prim.Native.Nat.{ℕ}
use Rattle.base.specs.Lists.{filter, concat_map, is_some}
use Rattle.sheet.specs.Sheet.{Sheet}
use Rattle.scope.specs.Trees.{Tree, row_of, outputs_of}
use Rattle.scope.specs.Traverse.{comprs}
use Rattle.scope.specs.Scopes.{contains, insert, elements, Scope, span_in, owns, add_input, use_input}
use Rattle.definition.specs.Uses.{add_first_use}
use Rattle.definition.specs.States.{Fault, sound, QuerySchedule, Run, State, schedule_of, scope_in, set_scope, add_first_uses, set_run, in_turn, Way}
use Rattle.original.specs.Inner.SameOuter.{SameOwn, below}
use Rattle.original.proofs.Laws.SameOuter.{same-own, same-outer}
use Rattle.original.specs.Inner.Settled.{Settled}
use Rattle.original.specs.Inner.Events.{comprs_met}
use Rattle.original.specs.Inner.RustWalk.{rust_walk}
use Rattle.original.proofs.Laws.BracketRepeats.{rust_takes_comprs}
use Rattle.definition.specs.Comprs.{propagate, comprs_use, use_compr, process_compr, process_comprs}
use Rattle.definition.specs.RustWay.{take, rust_way, analyze}
use Rattle.original.proofs.Laws.RustSame.{analyze-same}
use Rattle.original.specs.Inner.Beside.{no_fault}
use Rattle.original.proofs.Laws.Beside.{Own, state_of, if_sound-failed, own-use_input, own_add_inputs}
use Rattle.original.proofs.Laws.RustWrites.{failed_cases, take-sound}
use Rattle.original.proofs.Laws.Gated.{Gated, enter_with, gate, gate-settled}
use Rattle.original.proofs.Laws.TakenComprs.{TakenPart, spans_at, take_compr, take_compr-settled}

-- What is looked at in a state.
abbrev pub view_of : State → Gated TakenPart
view_of s = record {
  state = record { inputs = s.scope.inputs; uses_input = s.scope.uses_input; first_uses = s.first_uses };
  fault = s.run.fault;
}

-- After a fault no step is done.
in_turn-failed : (fs : List (State → State)) (s : State) → no_fault s.run.fault ≡ false → in_turn fs s ≡ s
in_turn-failed [] s h = refl
in_turn-failed (f ∷ fs) s h = ap (in_turn fs) (if_sound-failed s.run.fault h f s) ∙ in_turn-failed fs s h

-- Inputs that are added enter the set of inputs.
add_inputs : (sc : Scope) (xs : List ℕ)
    → foldl add_input sc xs
    ≡ record { locals = sc.locals; unscoped = sc.unscoped; inputs = foldl insert sc.inputs xs; uses_input = sc.uses_input }
unfolding add_input
add_inputs sc [] = refl
add_inputs sc (x ∷ xs) = add_inputs (add_input sc x) xs

-- Which names are the query's own depends on locals and unscoped.
owns-same : (a b : Scope) → SameOwn a b → owns a ≡ owns b
unfolding owns
owns-same a b h = λ i x. is_some (span_in (h.locals i) x) || contains (h.unscoped i) x

-- It goes both ways.
same_sym : (a b : Scope) → SameOwn a b → SameOwn b a
same_sym a b h = record { locals = sym h.locals; unscoped = sym h.unscoped }

-- And on.
same_trans : (a b c : Scope) → SameOwn a b → SameOwn b c → SameOwn a c
same_trans a b c h k = record { locals = h.locals ∙ k.locals; unscoped = h.unscoped ∙ k.unscoped }

module _ (levels : ℕ) (sheet : Sheet) (parents : List Scope) (sc₀ : Scope) where
  -- The Rust's way below the parents.
  abbrev way : Way
  way = rust_way sheet (λ ps q ts. analyze levels sheet ps q ts) parents

  -- The run of a comprehension in a scope.
  abbrev run_in : Scope → Tree → Run
  run_in sc e = analyze levels sheet (sc ∷ parents) (row_of e).third (outputs_of e)

  -- The scope that it finds.
  abbrev scope_found : Scope → Tree → Scope
  scope_found sc e = scope_in (schedule_of (run_in sc e).schedules (row_of e).third)

  -- Its fault in the scope at the start.
  abbrev fault_in : Tree → Fault
  fault_in e = (run_in sc₀ e).fault

  -- How it is taken.
  abbrev step : TakenPart → Tree → TakenPart
  step = take_compr (owns sc₀) (scope_found sc₀)

  -- A scope with the same locals and unscoped has the same run.
  run-same : (sc : Scope) → SameOwn sc₀ sc → (e : Tree) → run_in sc e ≡ run_in sc₀ e
  run-same sc h e =
      ap (λ (f : ℕ → List Tree → Run). f (row_of e).third (outputs_of e))
      (analyze-same levels sheet (below (same_sym sc₀ sc h) (same-outer parents)))

  -- And the same scope is found.
  found-same : (sc : Scope) → SameOwn sc₀ sc → (e : Tree) → scope_found sc e ≡ scope_found sc₀ e
  found-same sc h e = ap (λ (r : Run). scope_in (schedule_of r.schedules (row_of e).third)) (run-same sc h e)

  -- The scope after a comprehension without fault.
  abbrev scope_after : Scope → Tree → Scope
  scope_after sc e =
      foldl add_input (use_input (scope_found sc e).uses_input sc) (filter (λ x. not (owns sc x)) (elements (scope_found sc e).inputs))

  -- It keeps locals and unscoped.
  own-after : (sc : Scope) → SameOwn sc₀ sc → (e : Tree) → SameOwn sc₀ (scope_after sc e)
  own-after sc h e =
      same_trans sc₀ sc (scope_after sc e) h
      (own_add_inputs sc (filter (λ x. not (owns sc x)) (elements (scope_found sc e).inputs)) (use_input (scope_found sc e).uses_input sc)
      (own-use_input (scope_found sc e).uses_input sc))

  -- One comprehension, where there is no fault so far.
  one-sound : (o : Own) (T : List QuerySchedule) (e : Tree) → SameOwn sc₀ o.scope
      → (view_of (process_compr sheet way (state_of o T) e) ≡ enter_with step fault_in (fault_in e) e (view_of (state_of o T)).state)
      × SameOwn sc₀ (process_compr sheet way (state_of o T) e).scope
  unfolding process_compr rust_way take set_run propagate use_compr comprs_use set_scope add_first_uses use_input
  one-sound o T e h =
      ⊎_elim good bad (failed_cases r.fault)
    where
      sc : Scope
      sc = o.scope

      r : Run
      r = run_in sc e

      p : TakenPart
      p = record { inputs = sc.inputs; uses_input = sc.uses_input; first_uses = o.first_uses }

      rest : List (State → State)
      rest = (λ t. propagate sheet way t.scope e t) ∷ use_compr sheet way e ∷ []

      same : r.fault ≡ fault_in e
      same = ap (λ (a : Run). a.fault) (run-same sc h e)

      Claim : State → Type 0
      Claim s = (view_of s ≡ enter_with step fault_in (fault_in e) e p) × SameOwn sc₀ s.scope

      bad : no_fault r.fault ≡ false → Claim (in_turn rest (take r (state_of o T)))
      bad n =
          subst Claim (sym (in_turn-failed rest (take r (state_of o T)) n)) (
            ap {B = Gated TakenPart} (λ (f : Fault). record { state = p; fault = f }) same
                ∙ sym (if_sound-failed (fault_in e) (sym (ap no_fault same) ∙ n) (λ k. record { state = step k.state e; fault = sound })
                (record { state = p; fault = fault_in e })),
            h,
          )

      sc₂ : Scope
      sc₂ = scope_after sc e

      full : sc₂
          ≡ record {
            locals = sc.locals;
            unscoped = sc.unscoped;
            inputs = foldl insert sc.inputs (filter (λ x. not (owns sc x)) (elements (scope_found sc e).inputs));
            uses_input = (scope_found sc e).uses_input || sc.uses_input;
          }
      full = add_inputs (use_input (scope_found sc e).uses_input sc) (filter (λ x. not (owns sc x)) (elements (scope_found sc e).inputs))

      good : r.fault ≡ sound → Claim (in_turn rest (take r (state_of o T)))
      good s =
          let ins : sc₂.inputs ≡ (step p e).inputs =
          ap (λ (x : Scope). x.inputs) full
          ∙ ap₂ (λ (w : ℕ → Bool) (y : Scope). foldl insert sc.inputs (filter (λ x. not (w x)) (elements y.inputs)))
          (sym (owns-same sc₀ sc h)) (found-same sc h e) in
          let flag : sc₂.uses_input ≡ (step p e).uses_input =
          ap (λ (x : Scope). x.uses_input) full ∙ ap (λ (y : Scope). y.uses_input || sc.uses_input) (found-same sc h e) in
          let uses : foldl add_first_use o.first_uses (spans_at e (filter (owns sc₂) (elements (scope_found sc₂ e).inputs) ++ []))
          ≡ (step p e).first_uses =
          ap (λ (l : List ℕ). foldl add_first_use o.first_uses (spans_at e l))
          (append-nil (filter (owns sc₂) (elements (scope_found sc₂ e).inputs))
          ∙ ap₂ (λ (w : ℕ → Bool) (y : Scope). filter w (elements y.inputs)) (sym (owns-same sc₀ sc₂ (own-after sc h e)))
          (found-same sc₂ (own-after sc h e) e)) in
          subst Claim (ap (in_turn rest) (sym (take-sound r o T s))) (
            (λ i. record { state = record { inputs = ins i; uses_input = flag i; first_uses = uses i }; fault = sound })
                ∙ ap (λ (f : Fault). enter_with step fault_in f e p) (sym s ∙ same),
            own-after sc h e,
          )

  -- One comprehension.
  one : (s : State) (e : Tree) → SameOwn sc₀ s.scope
      → (view_of (process_compr sheet way s e) ≡ gate step fault_in (view_of s) e) × SameOwn sc₀ (process_compr sheet way s e).scope
  unfolding process_compr
  one s e h =
      ⊎_elim
      (λ (q : s.run.fault ≡ sound).
      let o : Own = record { scope = s.scope; first_uses = s.first_uses; definitions = s.definitions } in
      let eq : state_of o s.run.schedules ≡ s =
      ap {B = State}
      (λ (f : Fault).
      record {
        scope = s.scope;
        first_uses = s.first_uses;
        definitions = s.definitions;
        run = record { schedules = s.run.schedules; fault = f };
      }) (sym q) in
      subst
      (λ (t : State).
      (view_of (process_compr sheet way t e) ≡ gate step fault_in (view_of t) e) × SameOwn sc₀ (process_compr sheet way t e).scope) eq
      (one-sound o s.run.schedules e h))
      (λ (n : no_fault s.run.fault ≡ false).
      let still =
      in_turn-failed (way.compr s.scope e ∷ (λ t. propagate sheet way t.scope e t) ∷ use_compr sheet way e ∷ []) s n in (
        ap view_of still
            ∙ sym (if_sound-failed s.run.fault n (λ k. enter_with step fault_in (fault_in e) e k.state) (view_of s)),
        subst (λ (t : State). SameOwn sc₀ t.scope) (sym still) h,
      ))
      (failed_cases s.run.fault)

  -- A list of comprehensions.
  all-taken : (cs : List Tree) (s : State) → SameOwn sc₀ s.scope
      → view_of (foldl (process_compr sheet way) s cs) ≡ foldl (gate step fault_in) (view_of s) cs
  all-taken [] s h = refl
  all-taken (e ∷ cs) s h =
      all-taken cs (process_compr sheet way s e) (one s e h).1 ∙ ap (λ (g : Gated TakenPart). foldl (gate step fault_in) g cs) (one s e h).0

-- Comprehensions as the Rust's walks over expressions hand them out, some more than once, come to the same scope, first uses and fault as
-- those that `comprs` lists. Each walk may have a scope of its own.
pub rust_process_comprs : (levels : ℕ) (sheet : Sheet) (parents : List Scope) (i : ℕ) (scope_of : Tree → Scope) (extras : Tree → List ℕ)
    (ts : List Tree) (s : State)
    → (let way = rust_way sheet (λ ps q outputs. analyze levels sheet ps q outputs) parents in
    view_of (process_comprs sheet way (concat_map (λ t. comprs_met (rust_walk sheet (scope_of t) (extras t) i t)) ts) s)
    ≡ view_of (process_comprs sheet way (concat_map comprs ts) s))
unfolding process_comprs
rust_process_comprs levels sheet parents i scope_of extras ts s =
    all-taken levels sheet parents s.scope (concat_map (λ t. comprs_met (rust_walk sheet (scope_of t) (extras t) i t)) ts) s (same-own s.scope)
    ∙ lists ts (view_of s)
    ∙ sym (all-taken levels sheet parents s.scope (concat_map comprs ts) s (same-own s.scope))
  where
    step : Gated TakenPart → Tree → Gated TakenPart
    step =
        gate (take_compr (owns s.scope) (scope_found levels sheet parents s.scope s.scope))
        (fault_in levels sheet parents s.scope)

    settled : Settled step
    settled =
        gate-settled (take_compr (owns s.scope) (scope_found levels sheet parents s.scope s.scope))
        (fault_in levels sheet parents s.scope)
        (take_compr-settled (owns s.scope) (scope_found levels sheet parents s.scope s.scope))

    lists : (us : List Tree) (g : Gated TakenPart)
        → foldl step g (concat_map (λ t. comprs_met (rust_walk sheet (scope_of t) (extras t) i t)) us) ≡ foldl step g (concat_map comprs us)
    lists [] g = refl
    lists (t ∷ us) g =
        let k = comprs_met (rust_walk sheet (scope_of t) (extras t) i t) in
        foldl-append step g k (concat_map (λ u. comprs_met (rust_walk sheet (scope_of u) (extras u) i u)) us)
        ∙ lists us (foldl step g k)
        ∙ ap (λ (h : Gated TakenPart). foldl step h (concat_map comprs us)) (rust_takes_comprs sheet (scope_of t) (extras t) i step settled t g)
        ∙ sym (foldl-append step g (comprs t) (concat_map comprs us))
