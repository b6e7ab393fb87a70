-- Laws of `AddsDefinitions`.
use mathlib.Core.Path.{◌≡◌, refl, sym, ap, ◌∙◌}
use mathlib.Core.Bool.{true}
use mathlib.Core.List.{List, [], ◌∷◌, ◌++◌, append-nil, append_assoc, foldl, Memᴰ}
use mathlib.Core.Option.{Option, none, some}
use Prim.Native.Nat.{ℕ, ◌+◌, ◌≤◌}
use native.Mathlib.Omega.{arith}
use lib.ListN.{length, length-append}
use borrow.Author.Tests.{lt-ltb, ltb-true}
use Rattle.base.specs.Lists.{all}
use Rattle.order.specs.Definitions.{Definition}
use Rattle.base.proofs.Laws.ListLaws.{all_append, all_weaken}
use Rattle.sheet.specs.Sheet.{Sheet}
use Rattle.scope.specs.Scopes.{Span, Scope}
use Rattle.definition.specs.States.{Fault, sound, undefined, used_before, lengths, index_variable, QuerySchedule, Run, State, set_scope, add_first_uses, add_definitions, set_run, fail, if_sound, in_turn, fail_or}
use Rattle.definition_room.specs.Inner.Sizes.{total}
use Rattle.definition_room.specs.Inner.Adds.{FitsSchedule, below}

infixr 5 ◌⨾◌
module _ (sheet : Sheet) where
  -- Every schedule in the table fits.
  abbrev pub AllFit : Run → Type 0
  AllFit r = (a : QuerySchedule) → Memᴰ a r.schedules → FitsSchedule sheet a

  -- From the state s to the state t, at most n definitions are added, of statements below k, and schedules that fit stay so.
  pub record AddsDefinitions (k n : ℕ) (s t : State) : Type 0 where
    pub more : List Definition
    pub appended : t.definitions ≡ s.definitions ++ more
    pub few : length more ≤ n
    pub low : all (below k) more ≡ true
    pub fit : AllFit s.run → AllFit t.run

  -- A step that adds at most n, of statements below k.
  abbrev pub Step : ℕ → ℕ → (State → State) → Type 0
  Step k n f = (s : State) → AddsDefinitions k n s (f s)

  -- ---- one after the other

  -- To stay is to add nothing.
  pub adds_no_definition : {k : ℕ} (s : State) → AddsDefinitions k 0 s s
  adds_no_definition s = record { more = []; appended = sym (append-nil s.definitions); few = omega arith; low = refl; fit = λ h. h }

  -- What is added first, and then.
  pub adds_definitions_then : {k m n : ℕ} {s t u : State} → AddsDefinitions k m s t → AddsDefinitions k n t u → AddsDefinitions k (m + n) s u
  adds_definitions_then {k} {m} {n} {s} {t} {u} a b = record {
    more = a.more ++ b.more;
    appended = b.appended ∙ ap (λ (l : List Definition). l ++ b.more) a.appended ∙ append_assoc s.definitions a.more b.more;
    few = omega (arith, length-append a.more b.more, a.few, b.few);
    low = all_append (below k) a.more b.more a.low b.low;
    fit = λ h. b.fit (a.fit h);
  }

  -- A larger bound is one too.
  pub adds_at_most : {k m : ℕ} {s t : State} (n : ℕ) → AddsDefinitions k m s t → m ≤ n → AddsDefinitions k n s t
  adds_at_most n a l = record { more = a.more; appended = a.appended; few = omega (arith, a.few); low = a.low; fit = a.fit }

  pub step_at-most : {k m : ℕ} {f : State → State} (n : ℕ) → Step k m f → m ≤ n → Step k n f
  step_at-most n h l s = adds_at_most n (h s) l

  -- So is a larger bound of the statements.
  pub adds_below : {k n : ℕ} {s t : State} (j : ℕ) → AddsDefinitions k n s t → k ≤ j → AddsDefinitions j n s t
  adds_below {k} j a l = record {
    more = a.more;
    appended = a.appended;
    few = a.few;
    low = all_weaken (below k) (below j) (λ d h. lt-ltb d.statement j (omega (arith, ltb-true d.statement k h))) a.more a.low;
    fit = a.fit;
  }

  -- So there is room for all, where there is room for n more; and at no time before there were more.
  pub adds_length : {k n : ℕ} {s t : State} → AddsDefinitions k n s t
      → (length s.definitions ≤ length t.definitions) × (length t.definitions ≤ length s.definitions + n)
  adds_length {k} {n} {s} {t} a =
      let l = ap length a.appended ∙ length-append s.definitions a.more in
      (omega arith, omega (arith, a.few))

  -- A step that is not done at a fault.
  pub step_if : {k n : ℕ} (f : State → State) → Step k n f → (x : Fault) → Step k n (if_sound x f)
  step_if f g sound s = g s
  step_if {n = n} f g (undefined a b) s = adds_at_most n (adds_no_definition s) (omega arith)
  step_if {n = n} f g (used_before a b) s = adds_at_most n (adds_no_definition s) (omega arith)
  step_if {n = n} f g (lengths a b) s = adds_at_most n (adds_no_definition s) (omega arith)
  step_if {n = n} f g index_variable s = adds_at_most n (adds_no_definition s) (omega arith)

  -- Steps that add at most n together.
  pub data AddsInTurn (k : ℕ) : ℕ → List (State → State) → Type 0 where
    end : AddsInTurn k 0 []
    ◌⨾◌ : {m n : ℕ} {f : State → State} {steps : List (State → State)} → Step k m f → AddsInTurn k n steps → AddsInTurn k (m + n) (f ∷ steps)

  -- They do so up to the first fault.
  pub adds_turn : {k n : ℕ} {steps : List (State → State)} → AddsInTurn k n steps → Step k n (in_turn steps)
  adds_turn end s = adds_no_definition s
  adds_turn (◌⨾◌ {f = f} g h) s = adds_definitions_then (step_if f g s.run.fault s) (adds_turn h (if_sound s.run.fault f s))

  -- A step for each element.
  pub turn-fold : {A : Type 0} {k : ℕ} (cost : A → ℕ) (g : State → A → State) → ((x : A) → Step k (cost x) (λ s. g s x))
      → (l : List A) → Step k (total cost l) (λ s. foldl g s l)
  turn-fold cost g h [] s = adds_no_definition s
  turn-fold cost g h (x ∷ l) s = adds_definitions_then (h x s) (turn-fold cost g h l (g s x))

  pub turn_fold_none : {A : Type 0} {k : ℕ} (g : State → A → State) → ((x : A) → Step k 0 (λ s. g s x)) → (l : List A) → Step k 0 (λ s. foldl g s l)
  turn_fold_none g h [] s = adds_no_definition s
  turn_fold_none g h (x ∷ l) s = adds_definitions_then (h x s) (turn_fold_none g h l (g s x))

  -- ---- changes of one part

  pub adds_set_scope : {k : ℕ} (sc : Scope) → Step k 0 (set_scope sc)
  unfolding set_scope
  adds_set_scope sc s = record { more = []; appended = sym (append-nil s.definitions); few = omega arith; low = refl; fit = λ h. h }

  pub adds_first_uses : {k : ℕ} (spans : List Span) → Step k 0 (add_first_uses spans)
  unfolding add_first_uses
  adds_first_uses spans s = record { more = []; appended = sym (append-nil s.definitions); few = omega arith; low = refl; fit = λ h. h }

  pub adds_definitions : {k : ℕ} (defs : List Definition) → all (below k) defs ≡ true → Step k (length defs) (add_definitions defs)
  unfolding add_definitions
  adds_definitions defs l s = record { more = defs; appended = refl; few = omega arith; low = l; fit = λ h. h }

  pub adds_set_run : {k : ℕ} (s : State) (r : Run) → (AllFit s.run → AllFit r) → AddsDefinitions k 0 s (set_run r s)
  unfolding set_run
  adds_set_run s r h = record { more = []; appended = sym (append-nil s.definitions); few = omega arith; low = refl; fit = h }

  pub adds_fail : {k : ℕ} (f : Fault) → Step k 0 (fail f)
  unfolding fail
  adds_fail f s = adds_set_run s _ (λ h. h)

  -- A fault, or the step.
  pub adds_fail_or : {k n : ℕ} (e : Option Fault) (f : State → State) → Step k n f → Step k n (fail_or e f)
  adds_fail_or none f h s = h s
  adds_fail_or {n = n} (some e) f h s = adds_at_most n (adds_fail e s) (omega arith)
