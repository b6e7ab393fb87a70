-- What the steps of a query's analysis keep: a property S of its scope and its definitions that each change keeps, and a property R of
-- the schedules. Here: steps that analyse no nested query.
use mathlib.Core.Path.{◌≡◌, refl}
use mathlib.Core.Bool.{Bool, true, false, not, ◌||◌}
use mathlib.Core.List.{List, [], ◌∷◌, ◌++◌, map, foldl}
use mathlib.Core.Option.{Option, none, some}
use Prim.Native.Nat.{ℕ}
use lib.Dec.{eqb}
use Rattle.base.proofs.Laws.Truth.{and_intro, and_left, and_right, or_right}
use Rattle.base.specs.Lists.{all, filter}
use Rattle.order.specs.Definitions.{Definition, of_statement}
use Rattle.base.proofs.Laws.ListLaws.{all_weaken, all_filter, all_map}
use Rattle.sheet.specs.declared.Row.{Row}
use Rattle.sheet.specs.Sheet.{Sheet}
use Rattle.scope.specs.Trees.{Tree, row_of}
use Rattle.scope.specs.Traverse.{leaves, vars}
use Rattle.scope.specs.Scopes.{elements, Scope, Span, span_of, span_in, is_local, owns, add_unscoped, add_input, use_input}
use Rattle.definition.specs.Uses.{define, reads_input, undefined_var, variables_used, index_definitions}
use Rattle.definition.specs.States.{scope_in, schedule_of, Fault, sound, undefined, used_before, lengths, index_variable, QuerySchedule, Run, State, set_scope, add_first_uses, add_definitions, set_run, fail, if_sound, in_turn, fail_or, Way}
use Rattle.definition.specs.Using.{undefined_at, gather_used_vars, used_before_at, check_first_use, check_assigned, record_one, record_each, unless_some, at_least_one}
use Rattle.definition.specs.Comprs.{propagate, comprs_use, use_compr}
use Rattle.definition_once.specs.Inner.OnceWay.{Nested, compr_scope, once_way}
use Rattle.definition_once.proofs.Laws.OnceWay.{compr_inputs}
use Rattle.definition_once.specs.Inner.Own.{own_definition}
use Rattle.definition_once.proofs.Laws.Own.{Grows, own_grows, define-own, grows_flag, grows_inputs, index-own}

-- Each change keeps S: names that pass Q are added to the inputs or, from an extra argument, to unscoped; the flag is set; own definitions
-- are recorded.
pub record KeptByChanges (Q : ℕ → Bool) (S : Scope → List Definition → Type 0) : Type 0 where
  pub input : (sc : Scope) (defs : List Definition) (x : ℕ) → Q x ≡ true → S sc defs → S (add_input sc x) defs
  pub flag : (sc : Scope) (defs : List Definition) (b : Bool) → S sc defs → S (use_input b sc) defs
  pub extra : (sc : Scope) (defs : List Definition) (x : ℕ) → Q x ≡ true → S sc defs → S (add_unscoped sc x) defs
  pub recorded : (sc : Scope) (defs new : List Definition) → all (own_definition sc) new ≡ true → S sc defs → S sc (defs ++ new)

-- What rises from the queries in a table passes Q.
abbrev pub Rises : (ℕ → Bool) → (List QuerySchedule → Type 0) → Type 0
Rises Q R = (l : List QuerySchedule) → R l → (q : ℕ) → all Q (elements (scope_in (schedule_of l q)).inputs) ≡ true

module _ (S : Scope → List Definition → Type 0) (R : List QuerySchedule → Type 0) where
  pub record HoldsBoth (s : State) : Type 0 where
    pub here : S s.scope s.definitions
    pub table : R s.run.schedules

  pub record KeepsBoth (s t : State) : Type 0 where
    pub holds : HoldsBoth t
    pub grows : Grows s.scope t.scope

  -- A step that keeps both, from a scope on.
  abbrev pub Good : Scope → (State → State) → Type 0
  Good sc f = (s : State) → HoldsBoth s → Grows sc s.scope → KeepsBoth s (f s)

  -- ---- steps in turn

  pub good-same : (sc : Scope) → Good sc (λ s. s)
  good-same sc s o h = record { holds = o; grows = λ x e. e }

  if_sound_lem : (sc : Scope) (f : State → State) → Good sc f → (l : Fault) → Good sc (if_sound l f)
  if_sound_lem sc f g sound s o h = g s o h
  if_sound_lem sc f g (undefined a b) s o h = good-same sc s o h
  if_sound_lem sc f g (used_before a b) s o h = good-same sc s o h
  if_sound_lem sc f g (lengths a b) s o h = good-same sc s o h
  if_sound_lem sc f g index_variable s o h = good-same sc s o h

  pub good-end : (sc : Scope) → Good sc (in_turn [])
  good-end sc s o h = record { holds = o; grows = λ x e. e }

  pub good_then : (sc : Scope) (f : State → State) (fs : List (State → State)) → Good sc f → Good sc (in_turn fs) → Good sc (in_turn (f ∷ fs))
  good_then sc f fs g gs s o h =
      let k = if_sound_lem sc f g s.run.fault s o h in
      let r = gs (if_sound s.run.fault f s) k.holds (λ x e. k.grows x (h x e)) in
      record { holds = r.holds; grows = λ x e. r.grows x (k.grows x e) }

  pub good-fold : {A : Type 0} (sc : Scope) (p : A → Bool) (g : State → A → State) → ((x : A) → p x ≡ true → Good sc (λ s. g s x))
      → (l : List A) → all p l ≡ true → Good sc (λ s. foldl g s l)
  good-fold sc p g k [] q s o h = record { holds = o; grows = λ x e. e }
  good-fold sc p g k (y ∷ l) q s o h =
      let a = k y (and_left (p y) (all p l) q) s o h in
      let r = good-fold sc p g k l (and_right (p y) (all p l) q) (g s y) a.holds (λ x e. a.grows x (h x e)) in
      record { holds = r.holds; grows = λ x e. r.grows x (a.grows x e) }

  -- ---- changes

  pub good-first_uses : (sc : Scope) (spans : List Span) → Good sc (add_first_uses spans)
  unfolding add_first_uses
  good-first_uses sc spans s o h = record { holds = record { here = o.here; table = o.table }; grows = λ x e. e }

  pub good-run : (s : State) (r : Run) → HoldsBoth s → R r.schedules → KeepsBoth s (set_run r s)
  unfolding set_run
  good-run s r o h = record { holds = record { here = o.here; table = h }; grows = λ x e. e }

  pub good-fail : (sc : Scope) (f : Fault) → Good sc (fail f)
  unfolding fail
  good-fail sc f s o h = good-run s _ o o.table

  pub good-fail_or : (sc : Scope) (f : State → State) (e : Option Fault) → Good sc f → Good sc (fail_or e f)
  good-fail_or sc f none g s o h = g s o h
  good-fail_or sc f (some e) g s o h = good-fail sc e s o h

  module _ (Q : ℕ → Bool) (k : KeptByChanges Q S) (rises : Rises Q R) where
    pub good-scope : (s : State) (sc : Scope) → HoldsBoth s → S sc s.definitions → Grows s.scope sc → KeepsBoth s (set_scope sc s)
    unfolding set_scope
    good-scope s sc o h g = record { holds = record { here = h; table = o.table }; grows = g }

    pub good-definitions : (s : State) (new : List Definition) → HoldsBoth s → all (own_definition s.scope) new ≡ true → KeepsBoth s (add_definitions new s)
    unfolding add_definitions
    good-definitions s new o h =
        record { holds = record { here = k.recorded s.scope s.definitions new h o.here; table = o.table }; grows = λ x e. e }

    inputs-kept : (l : List ℕ) → all Q l ≡ true → (sc : Scope) (defs : List Definition) → S sc defs → S (foldl add_input sc l) defs
    inputs-kept [] q sc defs h = h
    inputs-kept (x ∷ l) q sc defs h = inputs-kept l (and_right (Q x) _ q) (add_input sc x) defs (k.input sc defs x (and_left _ (all Q l) q) h)

    pub extras_kept : (l : List ℕ) → all Q l ≡ true → (sc : Scope) (defs : List Definition) → S sc defs → S (foldl add_unscoped sc l) defs
    extras_kept [] q sc defs h = h
    extras_kept (x ∷ l) q sc defs h =
        extras_kept l (and_right (Q x) _ q) (add_unscoped sc x) defs (k.extra sc defs x (and_left _ (all Q l) q) h)

    -- ---- the steps of one expression

    pub good-used : (sheet : Sheet) (sc : Scope) (i : ℕ) (extras : List ℕ) (t : Tree) → Good sc (gather_used_vars sheet i extras t)
    unfolding gather_used_vars
    good-used sheet sc i extras t s o h =
        let a = s.scope in
        let f1 : State → State = λ u. set_scope (use_input (reads_input sheet t) u.scope) u in
        let f2 : State → State = add_first_uses (map span_of (variables_used sheet a extras t)) in
        let f3 : State → State = add_definitions (index_definitions sheet a extras i t) in
        good-fail_or a (in_turn (f1 ∷ f2 ∷ f3 ∷ [])) (undefined_at (undefined_var sheet a t))
        (good_then a f1 (f2 ∷ f3 ∷ [])
        (λ u p g. good-scope u (use_input (reads_input sheet t) u.scope) p (k.flag u.scope u.definitions (reads_input sheet t) p.here) (grows_flag (reads_input sheet t) u.scope))
        (good_then a f2 (f3 ∷ []) (good-first_uses a (map span_of (variables_used sheet a extras t)))
        (good_then a f3 []
        (λ u p g. good-definitions u (index_definitions sheet a extras i t) p
        (all_weaken (own_definition a) (own_definition u.scope) (own_grows a u.scope g) (index_definitions sheet a extras i t) (index-own sheet a extras i t)))
        (good-end a))))
        s o (λ x e. e)

    pub good-propagate : (sheet : Sheet) (nested : Nested) (parents : List Scope) (sc : Scope) (p : State → Scope) (e : Tree)
        → Good sc (λ s. propagate sheet (once_way sheet nested parents) (p s) e s)
    unfolding propagate
    good-propagate sheet nested parents sc p e s o h =
        let b = (compr_scope s e).uses_input in
        let l = filter (λ x. not (owns s.scope x)) (compr_inputs s e) in
        good-scope s (foldl add_input (use_input b s.scope) l) o
        (inputs-kept l (all_filter Q (λ x. not (owns s.scope x)) (compr_inputs s e) (rises s.run.schedules o.table (row_of e).third)) (use_input b s.scope) s.definitions (k.flag s.scope s.definitions b o.here))
        (λ x q. grows_inputs l (use_input b s.scope) x (grows_flag b s.scope x q))

    pub good-use_compr : (sheet : Sheet) (way : Way) (sc : Scope) (e : Tree) → Good sc (use_compr sheet way e)
    unfolding use_compr
    good-use_compr sheet way sc e s o h =
        good-first_uses sc (map (λ x. record { name = x; line = (row_of e).line; col = (row_of e).col }) (comprs_use sheet way (e ∷ []) s)) s o h

    -- ---- recording

    pub good-one : (i x : ℕ) (used : List ℕ) (s : State) → HoldsBoth s → (eqb x 0 || owns s.scope x) ≡ true
        → all (owns s.scope) used ≡ true → KeepsBoth s (record_one i x used s)
    unfolding record_one
    good-one i x used s o h u =
        good-definitions s (define i x used ∷ []) o
        (and_intro (own_definition s.scope (define i x used)) true (define-own s.scope i x used h u) refl)

    pub good-each : (i : ℕ) (xs : List ℕ) (used : ℕ → List ℕ) (s : State) → HoldsBoth s → all (owns s.scope) xs ≡ true
        → ((x : ℕ) → all (owns s.scope) (used x) ≡ true) → KeepsBoth s (record_each i xs used s)
    unfolding record_each
    good-each i [] used s o h u = good-one i 0 (used 0) s o refl (u 0)
    good-each i (x ∷ xs) used s o h u =
        good-definitions s (map (λ y. define i y (used y)) (x ∷ xs)) o
        (all_map (own_definition s.scope) (owns s.scope) (λ y. define i y (used y))
        (λ y q. define-own s.scope i y (used y) (or_right (eqb y 0) (owns s.scope y) q) (u y)) (x ∷ xs) h)

    pub good-at_least_one : (sc : Scope) (i : ℕ) → Good sc (at_least_one i)
    unfolding at_least_one
    good-at_least_one sc i s o h = go (of_statement i s.definitions)
      where
        go : (l : List Definition) → KeepsBoth s (unless_some l i s)
        go [] = good-one i 0 [] s o refl refl
        go (d ∷ defs) = good-same sc s o h

    -- ---- first uses

    pub good_check : (sc : Scope) (w : Row) → Good sc (λ s. check_first_use s w)
    unfolding check_first_use
    good_check sc w s o h =
        let e = used_before_at (span_in s.first_uses w.name) w in
        good_then sc (fail_or e (λ t. t)) [] (good-fail_or sc (λ t. t) e (good-same sc)) (good-end sc) s o h

    pub good_checks : (sc : Scope) (l : List Row) → Good sc (λ s. foldl check_first_use s l)
    good_checks sc [] s o h = good-same sc s o h
    good_checks sc (w ∷ l) s o h =
        let a = good_check sc w s o h in
        let r = good_checks sc l (check_first_use s w) a.holds (λ x e. a.grows x (h x e)) in
        record { holds = r.holds; grows = λ x e. r.grows x (a.grows x e) }

    pub good-check_assigned : (sc : Scope) (b : Bool) (t : Tree) → Good sc (check_assigned b t)
    unfolding check_assigned
    good-check_assigned sc true t s o h = good_checks sc (filter (λ w. is_local s.scope w.name) (vars (leaves t))) s o h
    good-check_assigned sc false t s o h = good-same sc s o h
