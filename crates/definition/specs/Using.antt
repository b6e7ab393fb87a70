-- The steps that concern one expression, and the recording of definitions.
-- Beside: document 01, Definition; scheduler.rs, `check_first_use` and the ends of the forms in `analyze_query`.
use Rattle.std.specs.Prelude.{Bool, cond, ℕ}
use mathlib.Core.List.{List, [], ◌∷◌, map, foldl}
use Rattle.std.proofs.Math.Option.{Option, none, some}
use Rattle.base.specs.Lists.{filter}
use Rattle.order.specs.Definitions.{Definition, of_statement}
use Rattle.sheet.specs.declared.Row.{Row}
use Rattle.sheet.specs.Sheet.{Sheet}
use Rattle.scope.specs.Trees.{Tree}
use Rattle.scope.specs.Traverse.{leaves, vars}
use Rattle.scope.specs.Scopes.{Span, span_of, span_in, is_local, use_input}
use Rattle.definition.specs.Uses.{define, reads_input, undefined_var, variables_used, index_definitions, is_before}
use Rattle.definition.specs.States.{Fault, undefined, used_before, State, set_scope, add_first_uses, add_definitions, in_turn, fail_or}

-- ---- uses

-- 11 at a variable.
abbrev pub undefined_at : Option Row → Option Fault
undefined_at none = none
undefined_at (some w) = some (undefined w.line w.col)

-- `gather_used_vars_comprs_index_vars` of an expression in statement i: 11, the input flag, first uses, and the definitions of its brackets.
-- The names and comprehensions that it hands back are `used_vars` and `comprs`.
unfoldable pub gather_used_vars : Sheet → ℕ → List ℕ → Tree → State → State
gather_used_vars sheet i extras t s =
    fail_or (undefined_at (undefined_var sheet s.scope t))
    (in_turn ((λ u. set_scope (use_input (reads_input sheet t) u.scope) u)
    ∷ add_first_uses (map span_of (variables_used sheet s.scope extras t))
    ∷ add_definitions (index_definitions sheet s.scope extras i t)
    ∷ []))
    s

-- ---- first uses

-- 12 at a use that stands before the variable w.
abbrev pub used_before_at : Option Span → Row → Option Fault
used_before_at none w = none
used_before_at (some p) w = cond (is_before (some p) w) (some (used_before p.line p.col)) none

-- `check_first_use`: 12 at the first use of a variable's name, if that stands before the variable.
unfoldable pub check_first_use : State → Row → State
check_first_use s w = in_turn (fail_or (used_before_at (span_in s.first_uses w.name) w) (λ t. t) ∷ []) s

-- The same for the locals among a pattern's variables, if it is asked for (`gather_assigned_vars` of scheduler.rs).
unfoldable pub check_assigned : Bool → Tree → State → State
check_assigned check t s = cond check (foldl check_first_use s (filter (λ w. is_local s.scope w.name) (vars (leaves t)))) s

-- ---- definitions of statement i

-- A definition of x (`definitions.push`).
unfoldable pub record_one : ℕ → ℕ → List ℕ → State → State
record_one i x used s = add_definitions (define i x used ∷ []) s

-- A definition of each name from what it uses, or of the empty name where there is none.
unfoldable pub record_each : ℕ → List ℕ → (ℕ → List ℕ) → State → State
record_each i [] used s = record_one i 0 (used 0) s
record_each i (x ∷ names) used s = add_definitions (map (λ y. define i y (used y)) (x ∷ names)) s

-- A definition of the empty name where the list is empty.
abbrev pub unless_some : List Definition → ℕ → State → State
unless_some [] i s = record_one i 0 [] s
unless_some (d ∷ defs) i s = s

-- A statement that recorded nothing gets a definition of the empty name.
unfoldable pub at_least_one : ℕ → State → State
at_least_one i s = unless_some (of_statement i s.definitions) i s
