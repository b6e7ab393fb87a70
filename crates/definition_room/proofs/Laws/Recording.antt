-- Steps that end with a definition of statement i: it is the one beyond what the expressions make.
use mathlib.Core.Path.{refl, sym, subst}
use mathlib.Core.List.Memᴰ
use mathlib.Core.List.{List, [], ◌∷◌, ◌++◌}
use mathlib.Core.Logic.{◌⊎◌, inl, inr}
use Prim.Native.Nat.{ℕ, suc, ◌+◌, ◌≤◌}
use native.Mathlib.Omega.{arith}
use Rattle.order.specs.Definitions.{Definition}
use Rattle.sheet.specs.Sheet.{Sheet}
use Rattle.definition.specs.Uses.{define}
use Rattle.definition.specs.States.{Fault, sound, undefined, used_before, lengths, index_variable, State, add_definitions, if_sound, in_turn}
use Rattle.definition.specs.Using.{record_one}
use Rattle.definition_room.specs.Inner.Adds.{Recorded}
use Rattle.definition_room.proofs.Laws.Adds.{AddsDefinitions, Step, adds_no_definition, adds_definitions_then, adds_at_most, step_if}
use Rattle.definition_room.proofs.Laws.Using.{adds_record_one}

infixr 5 ◌⨟◌
-- What is recorded stays so when definitions are put behind.
pub recorded-append : {j : ℕ} {defs : List Definition} (more : List Definition) → Recorded j defs → Recorded j (defs ++ more)
recorded-append more r = record { one = r.one; listed = Memᴰ.append_left more r.listed; statement = r.statement }

module _ (sheet : Sheet) where
  -- So it stays along with any steps.
  pub recorded-stays : {j k n : ℕ} {s t : State} → AddsDefinitions sheet k n s t → Recorded j s.definitions → Recorded j t.definitions
  recorded-stays {j} a r = subst (λ (l : List Definition). Recorded j l) (sym a.appended) (recorded-append a.more r)

-- A definition of statement i is one.
pub recorded-one : (i x : ℕ) (used : List ℕ) (s : State) → Recorded i (record_one i x used s).definitions
unfolding record_one add_definitions define
recorded-one i x used s =
    record { one = define i x used; listed = Memᴰ.append_right s.definitions (Memᴰ.head refl); statement = refl }

module _ (sheet : Sheet) (i : ℕ) where
  -- From s to t, at most n definitions of statements up to i are added; or one more, and then there is one of statement i.
  abbrev pub AddsFor : ℕ → State → State → Type 0
  AddsFor n s t = AddsDefinitions sheet (suc i) n s t ⊎ (AddsDefinitions sheet (suc i) (suc n) s t × Recorded i t.definitions)

  -- ---- as `adds_at_most`, `adds_definitions_then` and `step_if`

  pub for_at_most : {m : ℕ} {s t : State} (n : ℕ) → AddsFor m s t → m ≤ n → AddsFor n s t
  for_at_most n (inl a) l = inl (adds_at_most sheet n a l)
  for_at_most n (inr a) l = inr (adds_at_most sheet (suc n) a.0 (omega arith), a.1)

  pub for_then : {m n : ℕ} {s t u : State} → AddsDefinitions sheet (suc i) m s t → AddsFor n t u → AddsFor (m + n) s u
  for_then a (inl b) = inl (adds_definitions_then sheet a b)
  for_then {m} {n} a (inr b) = inr (adds_at_most sheet (suc (m + n)) (adds_definitions_then sheet a b.0) (omega arith), b.1)

  pub for_after : {m n : ℕ} {s t u : State} → AddsFor m s t → AddsDefinitions sheet (suc i) n t u → AddsFor (m + n) s u
  for_after (inl a) b = inl (adds_definitions_then sheet a b)
  for_after {m} {n} (inr a) b = inr (adds_at_most sheet (suc (m + n)) (adds_definitions_then sheet a.0 b) (omega arith), recorded-stays sheet b a.1)

  pub for_if : {n : ℕ} (f : State → State) (s : State) → AddsFor n s (f s) → (x : Fault) → AddsFor n s (if_sound x f s)
  for_if f s a sound = a
  for_if {n} f s a (undefined l c) = inl (adds_at_most sheet n (adds_no_definition sheet s) (omega arith))
  for_if {n} f s a (used_before l c) = inl (adds_at_most sheet n (adds_no_definition sheet s) (omega arith))
  for_if {n} f s a (lengths l c) = inl (adds_at_most sheet n (adds_no_definition sheet s) (omega arith))
  for_if {n} f s a index_variable = inl (adds_at_most sheet n (adds_no_definition sheet s) (omega arith))

  -- ---- steps

  -- A definition as the last step.
  pub for_one : (x : ℕ) (used : List ℕ) (s : State) → AddsFor 0 s (record_one i x used s)
  for_one x used s = inr (adds_record_one sheet i x used s, recorded-one i x used s)

  -- Steps of which the last is so.
  pub data TurnsFor : ℕ → List (State → State) → Type 0 where
    lastly : {n : ℕ} {f : State → State} → ((s : State) → AddsFor n s (f s)) → TurnsFor n (f ∷ [])
    ◌⨟◌ : {m n : ℕ} {f : State → State} {steps : List (State → State)} → Step sheet (suc i) m f → TurnsFor n steps
        → TurnsFor (m + n) (f ∷ steps)

  -- They do so up to the first fault.
  pub turn_for : {n : ℕ} {steps : List (State → State)} → TurnsFor n steps → (s : State) → AddsFor n s (in_turn steps s)
  turn_for (lastly {f = f} g) s = for_if f s (g s) s.run.fault
  turn_for (◌⨟◌ {f = f} g h) s = for_then (step_if sheet f g s.run.fault s) (turn_for h (if_sound s.run.fault f s))
