-- What a step does at a fault, and the room that it leaves.
use mathlib.Core.Path.{◌≡◌, refl, sym, ap, ◌∙◌, subst}
use mathlib.Core.Bool.{Bool, true, false}
use mathlib.Core.List.{List}
use Prim.Native.Nat.{ℕ, ◌+◌, ◌≤◌}
use native.Mathlib.Omega.{arith}
use Rattle.base.proofs.Laws.Truth.{not-both}
use Rattle.std.specs.Prelude.{Option, None, Some}
use Rattle.definition.specs.States as spec
use Rattle.definition.specs.States.{State, set_run, fail}
use Rattle.definition_room.proofs.Laws.Adds.{Step, adds_length}
use Rattle.scope_walk.specs.Inner.Sheets.{sheet_at}
use Rattle.definition_state.specs.declared.Fault.{Fault}
use Rattle.definition_state.specs.declared.Fault.TheVariants.{Undefined, UsedBefore, Lengths, IndexVariable}
use Rattle.definition_state.specs.declared.Progress.{Progress}
use Rattle.definition_state.specs.Inner.Faults.{is_sound, meant, meaning}
use Rattle.definition_state.specs.Inner.Frames.{failed, guarded, WholeState, Agree, Runs, Ready}

-- ---- a fault, or none

pub sound-is : (x : Option Fault) → is_sound x ≡ true → meaning x ≡ spec.sound
sound-is None b = refl
sound-is (Some f) b = absurd (not-both b refl)

fault-free : spec.Fault → Bool
fault-free spec.sound = true
fault-free (spec.undefined l c) = false
fault-free (spec.used_before l c) = false
fault-free (spec.lengths l c) = false
fault-free spec.index_variable = false

means_free : (x : Option Fault) → fault-free (meaning x) ≡ is_sound x
unfolding fault-free
means_free None = refl
means_free (Some (Undefined l c)) = refl
means_free (Some (UsedBefore l c)) = refl
means_free (Some (Lengths l c)) = refl
means_free (Some IndexVariable) = refl

pub not_sound : (x : Option Fault) → is_sound x ≡ false → meaning x ≡ spec.sound → ⊥
unfolding fault-free
not_sound x b e = not-both (sym (means_free x) ∙ ap fault-free e) b

module _ (f : State → State) (s : State) where
  pub guarded_when_sound : s.run.fault ≡ spec.sound → guarded f s ≡ f s
  guarded_when_sound e = rw e

  pub guarded_when_faulty : (x : Option Fault) → meaning x ≡ s.run.fault → is_sound x ≡ false → guarded f s ≡ s
  guarded_when_faulty None e b = absurd (not-both refl b)
  guarded_when_faulty (Some (Undefined l c)) e b = rw (sym e)
  guarded_when_faulty (Some (UsedBefore l c)) e b = rw (sym e)
  guarded_when_faulty (Some (Lengths l c)) e b = rw (sym e)
  guarded_when_faulty (Some IndexVariable) e b = rw (sym e)

module _ (t : List ℕ) where
  -- The state has no fault where the code has none.
  module _ (spans : List ℕ) (p : Progress) (fs w : List ℕ) (s : State) (a : Agree t spans p fs w s) (fine : is_sound p.fault ≡ true) where
    pub agree_sound : s.run.fault ≡ spec.sound
    agree_sound = sym a.fault ∙ sound-is p.fault fine

    pub agree_whole : WholeState t spans p fs w s
    agree_whole = a.whole agree_sound

  -- A fault ends it: only the fault and the count are kept, whatever is left beside them.
  pub failed-leaves : (spans : List ℕ) (p : Progress) (fs w fs' w' : List ℕ) (s : State) → Agree t spans p fs w s → (x : Fault)
      → Agree t spans (failed p x) fs' w' (fail (meant x) s)
  unfolding fail set_run
  failed-leaves spans p fs w fs' w' s a x = record { fault = refl; count = a.count; whole = λ e. absurd (not_sound (Some x) refl e) }

  -- Where all else is left as it was.
  pub failed-agrees : (spans : List ℕ) (p : Progress) (fs w : List ℕ) (s : State) → Agree t spans p fs w s → (x : Fault)
      → Agree t spans (failed p x) fs w (fail (meant x) s)
  failed-agrees spans p fs w s a x = failed-leaves spans p fs w fs w s a x

  -- At a fault nothing is done.
  pub runs-stays : (f : State → State) (p : Progress) (fs w : List ℕ) → is_sound p.fault ≡ false → Runs t (guarded f) p fs w p fs w
  runs-stays f p fs w b = record {
    grown = record { long = refl; up = omega arith; wide = refl; before = λ j l. refl };
    agrees = λ spans s h. subst (Agree t spans p fs w) (sym (guarded_when_faulty f s p.fault h.fault b)) h;
  }

  -- ---- room

  -- Room for more is room for less.
  pub ready_less : (p : Progress) (fs w : List ℕ) (more m : ℕ) → m ≤ more → Ready t p fs w more → Ready t p fs w m
  ready_less p fs w more m l h = record { spans = h.spans; state = h.state; agrees = h.agrees; room = record { enough = h.room.enough; rows = omega (arith, h.room.rows) } }

  -- A step that adds at most n leaves room for the others.
  pub ready-next : (k n : ℕ) (f : State → State) → Step (sheet_at t) k n f → (p r : Progress) (fs gs w v : List ℕ) → Runs t f p fs w r gs v
      → (more m : ℕ) → n + m ≤ more → Ready t p fs w more → Ready t r gs v m
  ready-next k n f adds p r fs gs w v runs more m l h = record {
    spans = h.spans;
    state = f h.state;
    agrees = runs.agrees h.spans h.state h.agrees;
    room =
        rw (runs.grown.wide, runs.grown.long)
        (record { enough = h.room.enough; rows = omega (arith, h.room.rows, (adds_length (sheet_at t) (adds h.state)).1) });
  }
