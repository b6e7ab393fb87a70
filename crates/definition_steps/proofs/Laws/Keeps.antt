-- Every step of a query's analysis keeps the own names of its scope, but for that of an extra argument. Here: steps that analyse no
-- nested query.
use mathlib.Core.Path.{refl}
use mathlib.Core.Bool.{Bool, true, false, not}
use mathlib.Core.List.{List, [], ◌∷◌, map, foldl}
use mathlib.Core.Option.{Option, none, some}
use Prim.Native.Nat.{ℕ}
use Rattle.base.specs.Lists.{filter}
use Rattle.order.specs.Definitions.{Definition}
use Rattle.sheet.specs.declared.Row.{Row}
use Rattle.sheet.specs.Sheet.{Sheet}
use Rattle.scope.specs.Trees.{Tree}
use Rattle.scope.specs.Traverse.{leaves, vars}
use Rattle.scope.specs.Scopes.{elements, Span, Scope, span_of, span_in, is_local, owns, add_input, use_input}
use Rattle.definition.specs.Uses.{define, reads_input, undefined_var, variables_used, index_definitions}
use Rattle.definition.specs.States.{Fault, sound, undefined, used_before, lengths, index_variable, Run, State, set_scope, add_first_uses, add_definitions, set_run, fail, if_sound, in_turn, fail_or, Way}
use Rattle.definition.specs.Using.{undefined_at, gather_used_vars, used_before_at, check_first_use, check_assigned, record_one, record_each}
use Rattle.definition.specs.Comprs.{propagate, use_compr}
use Rattle.definition_state.specs.Inner.Frames.{guarded}
use Rattle.definition_steps.proofs.Laws.Same.{SameScope, same_refl, same_trans}

infixr 5 ◌⨾◌
-- A step that keeps the own names.
abbrev pub Keeps : (State → State) → Type 0
Keeps f = (s : State) → SameScope s.scope (f s).scope

pub keeps_none : Keeps (λ s. s)
keeps_none s = same_refl s.scope

pub keeps_if : (f : State → State) → Keeps f → (x : Fault) → Keeps (if_sound x f)
keeps_if f k sound s = k s
keeps_if f k (undefined l c) s = same_refl s.scope
keeps_if f k (used_before l c) s = same_refl s.scope
keeps_if f k (lengths l c) s = same_refl s.scope
keeps_if f k index_variable s = same_refl s.scope

pub keeps_guarded : (f : State → State) → Keeps f → Keeps (guarded f)
keeps_guarded f k s = keeps_if f k s.run.fault s

-- Steps each of which keeps them.
pub data KeepsInTurn : List (State → State) → Type 0 where
  end : KeepsInTurn []
  ◌⨾◌ : {f : State → State} {steps : List (State → State)} → Keeps f → KeepsInTurn steps → KeepsInTurn (f ∷ steps)

pub keeps_turn : {steps : List (State → State)} → KeepsInTurn steps → Keeps (in_turn steps)
keeps_turn end s = same_refl s.scope
keeps_turn (◌⨾◌ {f = f} k ks) s = same_trans (keeps_if f k s.run.fault s) (keeps_turn ks (if_sound s.run.fault f s))

pub keeps_fold : {A : Type 0} (g : State → A → State) → ((x : A) → Keeps (λ s. g s x)) → (l : List A) → Keeps (λ s. foldl g s l)
keeps_fold g k [] s = same_refl s.scope
keeps_fold g k (x ∷ l) s = same_trans (k x s) (keeps_fold g k l (g s x))

-- ---- changes of one part

pub keeps_first_uses : (spans : List Span) → Keeps (add_first_uses spans)
unfolding add_first_uses
keeps_first_uses spans s = record { locals = refl; unscoped = refl }

pub keeps_definitions : (defs : List Definition) → Keeps (add_definitions defs)
unfolding add_definitions
keeps_definitions defs s = record { locals = refl; unscoped = refl }

pub keeps_run : (r : Run) → Keeps (set_run r)
unfolding set_run
keeps_run r s = record { locals = refl; unscoped = refl }

pub keeps_fail : (f : Fault) → Keeps (fail f)
unfolding fail
keeps_fail f s = keeps_run _ s

pub keeps_fail_or : (e : Option Fault) (f : State → State) → Keeps f → Keeps (fail_or e f)
keeps_fail_or none f k s = k s
keeps_fail_or (some e) f k s = keeps_fail e s

pub same-scope : (sc : Scope) (s : State) → SameScope s.scope sc → SameScope s.scope (set_scope sc s).scope
unfolding set_scope
same-scope sc s p = p

pub same_flag : (b : Bool) (sc : Scope) → SameScope sc (use_input b sc)
unfolding use_input
same_flag b sc = record { locals = refl; unscoped = refl }

pub same-input : (sc : Scope) (x : ℕ) → SameScope sc (add_input sc x)
unfolding add_input
same-input sc x = record { locals = refl; unscoped = refl }

pub same_inputs : (l : List ℕ) (sc : Scope) → SameScope sc (foldl add_input sc l)
same_inputs [] sc = same_refl sc
same_inputs (x ∷ l) sc = same_trans (same-input sc x) (same_inputs l (add_input sc x))

-- ---- the steps of one expression

pub keeps_gather_used_vars : (sheet : Sheet) (i : ℕ) (extras : List ℕ) (t : Tree) → Keeps (gather_used_vars sheet i extras t)
unfolding gather_used_vars
keeps_gather_used_vars sheet i extras t s =
    keeps_fail_or (undefined_at (undefined_var sheet s.scope t)) _
    (keeps_turn ((λ u. same-scope (use_input (reads_input sheet t) u.scope) u (same_flag (reads_input sheet t) u.scope))
    ⨾ keeps_first_uses (map span_of (variables_used sheet s.scope extras t))
    ⨾ keeps_definitions (index_definitions sheet s.scope extras i t)
    ⨾ end)) s

pub keeps_check_first_use : (w : Row) → Keeps (λ s. check_first_use s w)
unfolding check_first_use
keeps_check_first_use w s = keeps_turn (keeps_fail_or (used_before_at (span_in s.first_uses w.name) w) (λ t. t) keeps_none ⨾ end) s

pub keeps_check_first_uses : (ws : List Row) → Keeps (λ s. foldl check_first_use s ws)
keeps_check_first_uses = keeps_fold check_first_use keeps_check_first_use

pub keeps_check_assigned : (check : Bool) (t : Tree) → Keeps (check_assigned check t)
unfolding check_assigned
keeps_check_assigned true t s = keeps_check_first_uses (filter (λ w. is_local s.scope w.name) (vars (leaves t))) s
keeps_check_assigned false t s = same_refl s.scope

pub keeps_record_one : (i x : ℕ) (used : List ℕ) → Keeps (record_one i x used)
unfolding record_one
keeps_record_one i x used s = keeps_definitions (define i x used ∷ []) s

pub keeps_record_each : (i : ℕ) (xs : List ℕ) (used : ℕ → List ℕ) → Keeps (record_each i xs used)
unfolding record_each
keeps_record_each i [] used s = keeps_record_one i 0 (used 0) s
keeps_record_each i (x ∷ xs) used s = keeps_definitions (map (λ y. define i y (used y)) (x ∷ xs)) s

-- ---- what rises from a comprehension

module _ (sheet : Sheet) (way : Way) where
  pub keeps_propagate : (sc : Scope) (e : Tree) → Keeps (propagate sheet way sc e)
  unfolding propagate
  keeps_propagate sc e s =
      let b = (way.compr_scope sc s e).uses_input in
      let l = filter (λ x. not (owns s.scope x)) (elements (way.compr_scope sc s e).inputs) in
      same-scope (foldl add_input (use_input b s.scope) l) s (same_trans (same_flag b s.scope) (same_inputs l (use_input b s.scope)))

  pub keeps_use_compr : (e : Tree) → Keeps (use_compr sheet way e)
  unfolding use_compr
  keeps_use_compr e s = keeps_first_uses _ s
