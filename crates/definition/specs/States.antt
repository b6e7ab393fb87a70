-- What the analysis of a sheet carries along, steps up to the first fault (the Rust's `?`), and what a query's analysis asks of the
-- queries inside it.
-- Beside: scheduler.rs, `Analyzer`, `QuerySchedule` and `bail!`.
use mathlib.Core.List.{List, [], ◌∷◌, ◌++◌, foldl}
use Rattle.std.proofs.Math.Option.{Option, none, some}
use Rattle.std.specs.Prelude.{ℕ, eqb}
use Rattle.order.specs.Definitions.{Definition}
use Rattle.base.specs.Lists.{find}
use Rattle.scope.specs.Scopes.{Span, Scope, no_scope}
use Rattle.definition.specs.Uses.{add_first_use}
use Rattle.scope.specs.Trees.{Tree}
use Rattle.scope.specs.Statements.{Stmt}

-- ---- what is carried along

-- No fault so far; an undefined variable, a use before its definition, arrays whose lengths differ, each with its position; an index
-- variable inside a some-in pattern.
pub data Fault : Type 0 where
  sound : Fault
  undefined used_before lengths : (line col : ℕ) → Fault
  index_variable : Fault

-- What is known of a query once it is analysed (scheduler.rs, `QuerySchedule`): its scope, how many statements it has, and what it
-- recorded. The order is read off.
pub record QuerySchedule : Type 0 where
  pub query : ℕ
  pub scope : Scope
  pub count : ℕ
  pub definitions : List Definition

-- The analysis as a whole (`Analyzer`): the table of schedules, the latest in front, and the first fault.
pub record Run : Type 0 where
  pub schedules : List QuerySchedule
  pub fault : Fault

-- The analysis of one query: its scope, the first uses, the definitions recorded, and the whole that it is part of.
pub record State : Type 0 where
  pub scope : Scope
  pub first_uses : List Span
  pub definitions : List Definition
  pub run : Run

-- ---- the table

-- The schedule of a query, if it has one (`schedule_table.get_checked`).
abbrev pub schedule_of : List QuerySchedule → ℕ → Option QuerySchedule
schedule_of schedules q = find (λ (a : QuerySchedule). eqb a.query q) schedules

-- The scope of a schedule.
abbrev pub scope_in : Option QuerySchedule → Scope
scope_in none = no_scope
scope_in (some a) = a.scope

-- ---- changes of one part

-- Another scope.
unfoldable pub set_scope : Scope → State → State
set_scope sc s = record { scope = sc; first_uses = s.first_uses; definitions = s.definitions; run = s.run }

-- Uses at these places, in order.
unfoldable pub add_first_uses : List Span → State → State
add_first_uses spans s =
    record { scope = s.scope; first_uses = foldl add_first_use s.first_uses spans; definitions = s.definitions; run = s.run }

-- Definitions recorded behind the others.
unfoldable pub add_definitions : List Definition → State → State
add_definitions defs s = record { scope = s.scope; first_uses = s.first_uses; definitions = s.definitions ++ defs; run = s.run }

-- Another whole.
unfoldable pub set_run : Run → State → State
set_run r s = record { scope = s.scope; first_uses = s.first_uses; definitions = s.definitions; run = r }

-- `bail!`.
unfoldable pub fail : Fault → State → State
fail f s = set_run (record { schedules = s.run.schedules; fault = f }) s

-- ---- steps

-- f, unless there is a fault already.
abbrev pub if_sound : {A : Type 0} → Fault → (A → A) → A → A
if_sound sound f a = f a
if_sound (undefined l c) f a = a
if_sound (used_before l c) f a = a
if_sound (lengths l c) f a = a
if_sound index_variable f a = a

-- Steps one after the other, up to the first fault.
abbrev pub in_turn : List (State → State) → State → State
in_turn [] s = s
in_turn (f ∷ steps) s = in_turn steps (if_sound s.run.fault f s)

-- The fault, if there is one, and f if not.
abbrev pub fail_or : Option Fault → (State → State) → State → State
fail_or none f s = f s
fail_or (some e) f s = fail e s

-- ---- what the analysis of a query asks of the queries inside it

-- Below fixed parents.
pub record Way : Type 0 where
  -- The scope that a query of these statements and outputs starts with.
  pub start : List Stmt → List Tree → Scope
  -- The names that an extra argument binds.
  pub extra_vars : Tree → List ℕ
  -- The query of a comprehension is analysed below a scope.
  pub compr : Scope → Tree → State → State
  -- The scope of that query afterwards.
  pub compr_scope : Scope → State → Tree → Scope
  -- The body of an `every` is analysed below the scope of its key and value, and that below a scope.
  pub body : Scope → Scope → ℕ → State → State
