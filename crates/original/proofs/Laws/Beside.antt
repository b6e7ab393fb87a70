-- Laws of `Beside`.
use mathlib.Core.Path.{◌≡◌, refl, sym, ap, ◌∙◌, subst, subst₂}
use mathlib.Core.Bool.{Bool, true, false, true≢false}
use mathlib.Core.List.{List, [], ◌∷◌, ◌++◌, map, foldl, Memᴰ}
use mathlib.Core.Option.{Option, none, some}
use Prim.Native.Nat.{ℕ}
use Rattle.base.specs.Lists.{filter}
use Rattle.order.specs.Definitions.{Definition, of_statement}
use Rattle.sheet.specs.declared.Row.{Row}
use Rattle.sheet.specs.Sheet.{Sheet}
use Rattle.scope.specs.Trees.{Tree}
use Rattle.scope.specs.Traverse.{leaves, vars}
use Rattle.scope.specs.Scopes.{Scope, Span, span_of, span_in, is_local, add_input, use_input}
use Rattle.definition.specs.Uses.{define, reads_input, undefined_var, variables_used, index_definitions, add_first_use}
use Rattle.definition.specs.States.{Fault, sound, undefined, used_before, lengths, index_variable, QuerySchedule, State, set_scope, add_first_uses, add_definitions, set_run, fail, if_sound, in_turn, fail_or}
use Rattle.definition.specs.Using.{undefined_at, gather_used_vars, used_before_at, check_first_use, check_assigned, record_one, record_each, unless_some, at_least_one}
use Rattle.definition.specs.SomeIn.{fail_if_some}
use Rattle.original.specs.Inner.SameOuter.{SameOwn}
use Rattle.original.specs.Inner.Beside.{no_fault}

-- The part of a state that is the query's own.
pub record Own : Type 0 where
  pub scope : Scope
  pub first_uses : List Span
  pub definitions : List Definition

-- The state with a table and no fault.
abbrev pub state_of : Own → List QuerySchedule → State
state_of o T =
    record { scope = o.scope; first_uses = o.first_uses; definitions = o.definitions; run = record { schedules = T; fault = sound } }

-- A relation between two tables, which may depend on the scope.
abbrev pub Tables : Type 1
Tables = Scope → List QuerySchedule → List QuerySchedule → Type 0

-- Both failed with one fault, or both go on.
pub data Beside (ρ : Tables) : State → State → Type 0 where
  failed : (s u : State) → s.run.fault ≡ u.run.fault → no_fault s.run.fault ≡ false → Beside ρ s u
  going : (o : Own) (T U : List QuerySchedule) → ρ o.scope T U → Beside ρ (state_of o T) (state_of o U)

-- From related tables two steps come to states side by side.
abbrev pub GoodBeside : Tables → Tables → (State → State) → (State → State) → Type 0
GoodBeside ρ σ f g = (o : Own) (T U : List QuerySchedule) → ρ o.scope T U → Beside σ (f (state_of o T)) (g (state_of o U))

-- After a fault nothing is done.
pub if_sound-failed : {A : Type 0} (f : Fault) → no_fault f ≡ false → (g : A → A) (a : A) → if_sound f g a ≡ a
if_sound-failed sound h g a = absurd (true≢false h)
if_sound-failed (undefined l c) h g a = refl
if_sound-failed (used_before l c) h g a = refl
if_sound-failed (lengths l c) h g a = refl
if_sound-failed index_variable h g a = refl

-- One step on each side, up to a fault. The step may be made from the state.
pub turn_at : (ρ σ : Tables) (F G : State → State → State) → GoodBeside ρ σ (λ s. F s s) (λ u. G u u) → {s u : State} → Beside ρ s u
    → Beside σ (if_sound s.run.fault (F s) s) (if_sound u.run.fault (G u) u)
turn_at ρ σ F G h (failed s u p q) =
    subst₂ (λ (a b : State). Beside σ a b) (sym (if_sound-failed s.run.fault q (F s) s))
    (sym (if_sound-failed u.run.fault (sym (ap no_fault p) ∙ q) (G u) u)) (failed s u p q)
turn_at ρ σ F G h (going o T U r) = h o T U r

-- The same for a step that is made without the state.
pub beside_turn : (ρ σ : Tables) (f g : State → State) → GoodBeside ρ σ f g → {s u : State} → Beside ρ s u
    → Beside σ (if_sound s.run.fault f s) (if_sound u.run.fault g u)
beside_turn ρ σ f g h b = turn_at ρ σ (λ s. f) (λ u. g) h b

-- A relation that follows.
pub beside_map : (ρ σ : Tables) → ((sc : Scope) (T U : List QuerySchedule) → ρ sc T U → σ sc T U) → {s u : State} → Beside ρ s u → Beside σ s u
beside_map ρ σ h (failed s u p q) = failed s u p q
beside_map ρ σ h (going o T U r) = going o T U (h o.scope T U r)

-- Folds, over elements of a list.
pub fold_beside : {X : Type 0} (ρ : Tables) (f g : State → X → State) (xs : List X)
    → ((x : X) → Memᴰ x xs → (s u : State) → Beside ρ s u → Beside ρ (f s x) (g u x))
    → {s u : State} → Beside ρ s u → Beside ρ (foldl f s xs) (foldl g u xs)
fold_beside ρ f g [] h {s} {u} b = b
fold_beside ρ f g (x ∷ xs) h {s} {u} b =
    fold_beside ρ f g xs (λ y m s' u' c. h y (Memᴰ.tail m) s' u' c) (h x (Memᴰ.head refl) s u b)

-- ---- the scope keeps its locals and unscoped

-- The input flag is no matter.
pub own-use_input : (b : Bool) (sc : Scope) → SameOwn sc (use_input b sc)
unfolding use_input
own-use_input b sc = record { locals = refl; unscoped = refl }

-- Nor are inputs.
pub own_add_inputs : (sc : Scope) (xs : List ℕ) (from : Scope) → SameOwn sc from → SameOwn sc (foldl add_input from xs)
unfolding add_input
own_add_inputs sc [] from h = h
own_add_inputs sc (x ∷ xs) from h = own_add_inputs sc xs (add_input from x) (record { locals = h.locals; unscoped = h.unscoped })

-- ---- steps that do not read the table, where the relation depends on locals and unscoped alone

module _ (ρ : Tables) (again : (sc sc' : Scope) (T U : List QuerySchedule) → SameOwn sc sc' → ρ sc T U → ρ sc' T U) where
  pub fail-good : (f : Fault) → GoodBeside ρ ρ (fail f) (fail f)
  unfolding fail set_run
  fail-good sound o T U r = going o T U r
  fail-good (undefined l c) o T U r = failed (fail (undefined l c) (state_of o T)) (fail (undefined l c) (state_of o U)) refl refl
  fail-good (used_before l c) o T U r = failed (fail (used_before l c) (state_of o T)) (fail (used_before l c) (state_of o U)) refl refl
  fail-good (lengths l c) o T U r = failed (fail (lengths l c) (state_of o T)) (fail (lengths l c) (state_of o U)) refl refl
  fail-good index_variable o T U r = failed (fail index_variable (state_of o T)) (fail index_variable (state_of o U)) refl refl

  -- A fault, or a step that is good.
  pub fail_or-good : (f : Option Fault) (g : State → State) → GoodBeside ρ ρ g g → GoodBeside ρ ρ (fail_or f g) (fail_or f g)
  fail_or-good none g h o T U r = h o T U r
  fail_or-good (some f) g h o T U r = fail-good f o T U r

  -- What an expression's walk leaves in the state.
  gathered-good : (b : Bool) (spans : List Span) (defs : List Definition)
      → GoodBeside ρ ρ (in_turn ((λ u. set_scope (use_input b u.scope) u) ∷ add_first_uses spans ∷ add_definitions defs ∷ []))
      (in_turn ((λ u. set_scope (use_input b u.scope) u) ∷ add_first_uses spans ∷ add_definitions defs ∷ []))
  unfolding set_scope add_first_uses add_definitions
  gathered-good b spans defs o T U r =
      let p : Own = record {
        scope = use_input b o.scope;
        first_uses = foldl add_first_use o.first_uses spans;
        definitions = o.definitions ++ defs;
      } in
      going p T U (again o.scope (use_input b o.scope) T U (own-use_input b o.scope) r)

  -- `gather_used_vars`.
  pub gather_used_vars-good : (sheet : Sheet) (i : ℕ) (extras : List ℕ) (t : Tree)
      → GoodBeside ρ ρ (gather_used_vars sheet i extras t) (gather_used_vars sheet i extras t)
  unfolding gather_used_vars
  gather_used_vars-good sheet i extras t o T U r =
      let spans = map span_of (variables_used sheet o.scope extras t) in
      let defs = index_definitions sheet o.scope extras i t in
      fail_or-good (undefined_at (undefined_var sheet o.scope t))
      (in_turn ((λ u. set_scope (use_input (reads_input sheet t) u.scope) u) ∷ add_first_uses spans ∷ add_definitions defs ∷ []))
      (gathered-good (reads_input sheet t) spans defs) o T U r

  -- `check_first_use`.
  pub check_first_use_beside : (w : Row) {s u : State} → Beside ρ s u → Beside ρ (check_first_use s w) (check_first_use u w)
  unfolding check_first_use
  check_first_use_beside w b =
      let F : State → State → State = λ s. fail_or (used_before_at (span_in s.first_uses w.name) w) (λ t. t) in
      turn_at ρ ρ F F
      (λ o T U r. fail_or-good (used_before_at (span_in o.first_uses w.name) w) (λ t. t) (λ p A B x. going p A B x) o T U r) b

  -- `check_assigned`.
  pub check_assigned-good : (check : Bool) (t : Tree) → GoodBeside ρ ρ (check_assigned check t) (check_assigned check t)
  unfolding check_assigned
  check_assigned-good false t o T U r = going o T U r
  check_assigned-good true t o T U r =
      fold_beside ρ check_first_use check_first_use (filter (λ (w : Row). is_local o.scope w.name) (vars (leaves t)))
      (λ w m s u b. check_first_use_beside w b) (going o T U r)

  -- Equal first uses are added.
  pub add_first_uses_beside : (k l : List Span) → k ≡ l → (o : Own) (T U : List QuerySchedule) → ρ o.scope T U
      → Beside ρ (add_first_uses k (state_of o T)) (add_first_uses l (state_of o U))
  unfolding add_first_uses
  add_first_uses_beside k l e o T U r =
      let p : Own = record { scope = o.scope; first_uses = foldl add_first_use o.first_uses k; definitions = o.definitions } in
      subst (λ (m : List Span). Beside ρ (add_first_uses k (state_of o T)) (add_first_uses m (state_of o U))) e (going p T U r)

  -- Equal definitions are added.
  pub add_definitions_beside : (k l : List Definition) → k ≡ l → (o : Own) (T U : List QuerySchedule) → ρ o.scope T U
      → Beside ρ (add_definitions k (state_of o T)) (add_definitions l (state_of o U))
  unfolding add_definitions
  add_definitions_beside k l e o T U r =
      let p : Own = record { scope = o.scope; first_uses = o.first_uses; definitions = o.definitions ++ k } in
      subst (λ (m : List Definition). Beside ρ (add_definitions k (state_of o T)) (add_definitions m (state_of o U))) e (going p T U r)

  -- Equal scopes are set.
  pub set_scope_beside : (k l : Scope) → k ≡ l → (o : Own) (T U : List QuerySchedule) → ρ k T U
      → Beside ρ (set_scope k (state_of o T)) (set_scope l (state_of o U))
  unfolding set_scope
  set_scope_beside k l e o T U r =
      let p : Own = record { scope = k; first_uses = o.first_uses; definitions = o.definitions } in
      subst (λ (m : Scope). Beside ρ (set_scope k (state_of o T)) (set_scope m (state_of o U))) e (going p T U r)

  -- A definition from equal names is recorded.
  pub record_one_beside : (i x : ℕ) (k l : List ℕ) → k ≡ l → (o : Own) (T U : List QuerySchedule) → ρ o.scope T U
      → Beside ρ (record_one i x k (state_of o T)) (record_one i x l (state_of o U))
  unfolding record_one
  record_one_beside i x k l e o T U r =
      add_definitions_beside (define i x k ∷ []) (define i x l ∷ []) (ap (λ m. define i x m ∷ []) e) o T U r

  -- Definitions from equal names are recorded.
  pub record_each_beside : (i : ℕ) (names : List ℕ) (k l : ℕ → List ℕ) → k ≡ l → (o : Own) (T U : List QuerySchedule) → ρ o.scope T U
      → Beside ρ (record_each i names k (state_of o T)) (record_each i names l (state_of o U))
  unfolding record_each
  record_each_beside i [] k l e o T U r = record_one_beside i 0 (k 0) (l 0) (ap (λ (m : ℕ → List ℕ). m 0) e) o T U r
  record_each_beside i (x ∷ names) k l e o T U r =
      add_definitions_beside (map (λ y. define i y (k y)) (x ∷ names)) (map (λ y. define i y (l y)) (x ∷ names))
      (ap (λ (m : ℕ → List ℕ). map (λ y. define i y (m y)) (x ∷ names)) e) o T U r

  -- `fail_if_some`.
  pub fail_if_some-good : (defs : List Definition) → GoodBeside ρ ρ (fail_if_some defs) (fail_if_some defs)
  fail_if_some-good [] o T U r = going o T U r
  fail_if_some-good (d ∷ defs) o T U r = fail-good index_variable o T U r

  -- `at_least_one`.
  pub at_least_one-good : (i : ℕ) → GoodBeside ρ ρ (at_least_one i) (at_least_one i)
  unfolding at_least_one
  at_least_one-good i o T U r = go (of_statement i o.definitions)
    where
      go : (defs : List Definition) → Beside ρ (unless_some defs i (state_of o T)) (unless_some defs i (state_of o U))
      go [] = record_one_beside i 0 [] [] refl o T U r
      go (d ∷ defs) = going o T U r
