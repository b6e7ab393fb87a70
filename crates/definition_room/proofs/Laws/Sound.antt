-- A fault stays: where steps end without one, there was none before.
use mathlib.Core.Path.{◌≡◌, refl}
use mathlib.Core.List.{List, [], ◌∷◌, foldl}
use Prim.Native.Nat.{ℕ}
use native.Mathlib.Omega.{arith}
use Rattle.definition.specs.States.{Fault, sound, undefined, used_before, lengths, index_variable, State, if_sound, in_turn}

abbrev pub Sound : State → Type 0
Sound s = s.run.fault ≡ sound

-- A step is done at sound states alone.
pub sound-before : (f : State → State) (s : State) → Sound (if_sound s.run.fault f s) → Sound s
sound-before f s h = go s.run.fault refl h
  where
    go : (x : Fault) → s.run.fault ≡ x → Sound (if_sound x f s) → Sound s
    go sound e h = e
    go (undefined l c) e h = h
    go (used_before l c) e h = h
    go (lengths l c) e h = h
    go index_variable e h = h

-- What a step gives where it ends sound, it gives here.
pub sound-step : (P : State → Type 0) (f : State → State) → ((s : State) → Sound (f s) → P (f s))
    → (s : State) → Sound (if_sound s.run.fault f s) → P (if_sound s.run.fault f s)
sound-step P f gives s h = go s.run.fault refl h
  where
    go : (x : Fault) → s.run.fault ≡ x → Sound (if_sound x f s) → P (if_sound x f s)
    go sound e h = gives s h
    go (undefined l c) e h = let z : ◌≡◌ {A = ℕ} 0 1 = cc in absurd (omega arith)
    go (used_before l c) e h = let z : ◌≡◌ {A = ℕ} 0 1 = cc in absurd (omega arith)
    go (lengths l c) e h = let z : ◌≡◌ {A = ℕ} 0 1 = cc in absurd (omega arith)
    go index_variable e h = let z : ◌≡◌ {A = ℕ} 0 1 = cc in absurd (omega arith)

pub turn-sound : (steps : List (State → State)) (s : State) → Sound (in_turn steps s) → Sound s
turn-sound [] s h = h
turn-sound (f ∷ steps) s h = sound-before f s (turn-sound steps (if_sound s.run.fault f s) h)

pub fold-sound : {A : Type 0} (g : State → A → State) → ((s : State) (x : A) → Sound (g s x) → Sound s)
    → (l : List A) (s : State) → Sound (foldl g s l) → Sound s
fold-sound g k [] s h = h
fold-sound g k (x ∷ l) s h = k s x (fold-sound g k l (g s x) h)
