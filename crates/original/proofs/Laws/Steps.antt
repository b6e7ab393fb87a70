-- Steps of a query's analysis that keep a property S of its scope and a property R of the table: those that analyse no other query.
use mathlib.Core.Path.{◌≡◌, refl, sym, ap, subst}
use mathlib.Core.Bool.{Bool, true, false}
use mathlib.Core.List.{List, [], ◌∷◌, map, foldl, Memᴰ}
use mathlib.Core.Option.{Option, none, some}
use Prim.Native.Nat.{ℕ}
use Rattle.base.specs.Lists.{filter}
use Rattle.order.specs.Definitions.{Definition, of_statement}
use Rattle.sheet.specs.declared.Row.{Row}
use Rattle.scope.specs.Trees.{Tree}
use Rattle.scope.specs.Traverse.{leaves, vars}
use Rattle.scope.specs.Scopes.{Scope, Span, span_in, is_local}
use Rattle.definition.specs.Uses.{define}
use Rattle.definition.specs.States.{Fault, sound, undefined, used_before, lengths, index_variable, QuerySchedule, Run, State, set_scope, add_first_uses, add_definitions, set_run, fail, if_sound, in_turn, fail_or}
use Rattle.definition.specs.Using.{used_before_at, check_first_use, check_assigned, record_one, record_each, unless_some, at_least_one}
use Rattle.definition.specs.SomeIn.{fail_if_some}
use Rattle.original.specs.Inner.Beside.{no_fault}
use Rattle.original.proofs.Laws.Beside.{if_sound-failed}

-- The scope has S and the table has R.
pub record HoldsScope (S : Scope → Type 0) (R : List QuerySchedule → Type 0) (s : State) : Type 0 where
  pub here : S s.scope
  pub table : R s.run.schedules

module _ (S : Scope → Type 0) (R : List QuerySchedule → Type 0) where
  -- A step that keeps both.
  abbrev pub Safe : (State → State) → Type 0
  Safe f = (s : State) → HoldsScope S R s → HoldsScope S R (f s)

  -- A step that is done where there is no fault.
  pub if_sound_lem : (f : State → State) → Safe f → (l : Fault) → Safe (if_sound l f)
  if_sound_lem f g sound s o = g s o
  if_sound_lem f g (undefined a b) s o = o
  if_sound_lem f g (used_before a b) s o = o
  if_sound_lem f g (lengths a b) s o = o
  if_sound_lem f g index_variable s o = o

  -- Two steps, the second of which is known to keep both after the first alone.
  pub good_two : (f g : State → State) (s : State) → HoldsScope S R s → HoldsScope S R (f s) → ((f s).run.fault ≡ sound → HoldsScope S R (g (f s)))
      → HoldsScope S R (in_turn (f ∷ g ∷ []) s)
  good_two f g s o h k = go s.run.fault refl
    where
      after : (l : Fault) → (f s).run.fault ≡ l → HoldsScope S R (if_sound l g (f s))
      after sound e = k e
      after (undefined a b) e = h
      after (used_before a b) e = h
      after (lengths a b) e = h
      after index_variable e = h

      stays : (l : Fault) → no_fault l ≡ false → HoldsScope S R (if_sound l g s)
      stays l e = subst (HoldsScope S R) (sym (if_sound-failed l e g s)) o

      go : (l : Fault) → s.run.fault ≡ l → HoldsScope S R (if_sound (if_sound l f s).run.fault g (if_sound l f s))
      go sound e = after (f s).run.fault refl
      go (undefined a b) e = stays s.run.fault (ap no_fault e)
      go (used_before a b) e = stays s.run.fault (ap no_fault e)
      go (lengths a b) e = stays s.run.fault (ap no_fault e)
      go index_variable e = stays s.run.fault (ap no_fault e)

  -- One step.
  pub good_turn : (f : State → State) → Safe f → Safe (in_turn (f ∷ []))
  good_turn f g s o = if_sound_lem f g s.run.fault s o

  -- A step and those after it.
  pub safe_then : (f : State → State) (fs : List (State → State)) → Safe f → Safe (in_turn fs) → Safe (in_turn (f ∷ fs))
  safe_then f fs g gs s o = gs (if_sound s.run.fault f s) (if_sound_lem f g s.run.fault s o)

  -- A step for each element.
  pub safe_fold : {A : Type 0} (g : State → A → State) (l : List A) → ((x : A) → Memᴰ x l → Safe (λ s. g s x)) → Safe (λ s. foldl g s l)
  safe_fold g [] k s o = o
  safe_fold g (y ∷ l) k s o = safe_fold g l (λ x m. k x (Memᴰ.tail m)) (g s y) (k y (Memᴰ.head refl) s o)

  -- ---- changes of one part

  -- First uses.
  pub safe_first_uses : (spans : List Span) → Safe (add_first_uses spans)
  unfolding add_first_uses
  safe_first_uses spans s o = record { here = o.here; table = o.table }

  -- Definitions.
  pub safe_definitions : (new : List Definition) → Safe (add_definitions new)
  unfolding add_definitions
  safe_definitions new s o = record { here = o.here; table = o.table }

  -- A fault.
  pub safe_fail : (f : Fault) → Safe (fail f)
  unfolding fail set_run
  safe_fail f s o = record { here = o.here; table = o.table }

  -- A fault, or a step.
  pub safe_fail_or : (f : State → State) → Safe f → (e : Option Fault) → Safe (fail_or e f)
  safe_fail_or f g none s o = g s o
  safe_fail_or f g (some e) s o = safe_fail e s o

  -- Another scope.
  pub safe_scope : (sc : Scope) → S sc → Safe (set_scope sc)
  unfolding set_scope
  safe_scope sc h s o = record { here = h; table = o.table }

  -- Another run.
  pub safe_run : (r : Run) → R r.schedules → Safe (set_run r)
  unfolding set_run
  safe_run r h s o = record { here = o.here; table = h }

  -- ---- what is recorded and checked

  -- One definition.
  pub safe_one : (i x : ℕ) (used : List ℕ) → Safe (record_one i x used)
  unfolding record_one
  safe_one i x used = safe_definitions (define i x used ∷ [])

  -- A definition of each name.
  pub safe_each : (i : ℕ) (xs : List ℕ) (used : ℕ → List ℕ) → Safe (record_each i xs used)
  unfolding record_each
  safe_each i [] used = safe_one i 0 (used 0)
  safe_each i (x ∷ xs) used = safe_definitions (map (λ y. define i y (used y)) (x ∷ xs))

  -- A definition where there is none.
  pub safe_at_least_one : (i : ℕ) → Safe (at_least_one i)
  unfolding at_least_one
  safe_at_least_one i s o = go (of_statement i s.definitions)
    where
      go : (l : List Definition) → HoldsScope S R (unless_some l i s)
      go [] = safe_one i 0 [] s o
      go (d ∷ defs) = o

  -- First uses of variables.
  pub safe_checks : (l : List Row) → Safe (λ s. foldl check_first_use s l)
  unfolding check_first_use
  safe_checks l =
      safe_fold check_first_use l
      (λ w m s o.
      good_turn (fail_or (used_before_at (span_in s.first_uses w.name) w) (λ t. t))
      (safe_fail_or (λ t. t) (λ t p. p) (used_before_at (span_in s.first_uses w.name) w)) s o)

  -- First uses in a pattern.
  pub safe_check_assigned : (b : Bool) (t : Tree) → Safe (check_assigned b t)
  unfolding check_assigned
  safe_check_assigned true t s o = safe_checks (filter (λ w. is_local s.scope w.name) (vars (leaves t))) s o
  safe_check_assigned false t s o = o

  -- An index variable in a pattern.
  pub good_fail_if : (l : List Definition) → Safe (fail_if_some l)
  good_fail_if [] s o = o
  good_fail_if (d ∷ defs) s o = safe_fail index_variable s o
