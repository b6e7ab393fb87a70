-- Steps that are done unless there is a fault.
use mathlib.Core.Path.{◌≡◌, refl, sym, ◌∙◌, subst}
use mathlib.Core.Bool.{true}
use mathlib.Core.List.{List}
use mathlib.Core.Logic.{◌⊎◌, inl, inr}
use Prim.Native.Nat.{ℕ, ◌≤◌}
use lib.ListN.{length}
use Rattle.definition.specs.States as spec
use Rattle.definition.specs.States.{State, sound, if_sound}
use Rattle.definition_state.specs.declared.Progress.{Progress}
use Rattle.definition_state.specs.Inner.Faults.{is_sound}
use Rattle.definition_state.specs.Inner.Frames.{guarded, WholeState, Agree, Grown, Runs}
use Rattle.definition_state.proofs.Laws.Steps.{sound-is}

-- There is no fault, or nothing is done.
pub guard_cases : (q : spec.Fault) → (q ≡ sound) ⊎ ((f : State → State) (s : State) → if_sound q f s ≡ s)
guard_cases spec.sound = inl refl
guard_cases (spec.undefined l c) = inr (λ f s. refl)
guard_cases (spec.used_before l c) = inr (λ f s. refl)
guard_cases (spec.lengths l c) = inr (λ f s. refl)
guard_cases spec.index_variable = inr (λ f s. refl)

-- What is done where there is no fault may be said in another way.
pub if_same : {A : Type 0} (q : spec.Fault) (f g : A → A) (a : A) → f a ≡ g a → if_sound q f a ≡ if_sound q g a
if_same spec.sound f g a e = e
if_same (spec.undefined l c) f g a e = refl
if_same (spec.used_before l c) f g a e = refl
if_same (spec.lengths l c) f g a e = refl
if_same spec.index_variable f g a e = refl

module _ (t : List ℕ) where
  -- The same step, said in another way.
  pub runs_as : (f g : State → State) (p : Progress) (fs w : List ℕ) (r : Progress) (fs' w' : List ℕ) → ((s : State) → f s ≡ g s)
      → Runs t f p fs w r fs' w' → Runs t g p fs w r fs' w'
  runs_as f g p fs w r fs' w' same h = record {
    grown = h.grown;
    agrees = λ spans s a. subst (Agree t spans r fs' w') (same s) (h.agrees spans s a);
  }

  -- Where there is none, a step is done on a state that the code's is as a whole.
  pub runs-sound : (f : State → State) (p : Progress) → is_sound p.fault ≡ true → (fs w : List ℕ) (r : Progress) (fs' w' : List ℕ) → Grown t p w r w'
      → ((spans : List ℕ) (s : State) → s.run.fault ≡ sound → p.count ≤ length s.definitions → WholeState t spans p fs w s → Agree t spans r fs' w' (f s))
      → Runs t (guarded f) p fs w r fs' w'
  runs-sound f p fine fs w r fs' w' grown step = record {
    grown = grown;
    agrees = λ spans s h.
        let e : s.run.fault ≡ sound = sym h.fault ∙ sound-is p.fault fine in
        subst (λ (q : spec.Fault). Agree t spans r fs' w' (if_sound q f s)) (sym e) (step spans s e h.count (h.whole e));
  }
