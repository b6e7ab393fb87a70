-- What one expression uses of a query's scope, and where names are used first. The Rust walks what a bracket indexes once more for each
-- name in the index; here each expression is walked once.
-- Beside: scheduler.rs, `gather_used_vars_comprs_index_vars`.
use Rattle.std.specs.Prelude.{Bool, cond, not, ◌&&◌, false, ◌||◌, List, [], ◌∷◌, map, ℕ, eqb, ltb}
use Rattle.std.proofs.Math.Option.{Option, none, some}
use Rattle.base.specs.Lists.{filter, elem, range, concat_map, any, find, is_some}
use Rattle.order.specs.Definitions.{Definition}
use Rattle.sheet.specs.declared.Row.{Row}
use Rattle.sheet.specs.Sheet.{Sheet, name_bound, is_input, is_special}
use Rattle.sheet.specs.Kinds.{is_var, is_ref_brack}
use Rattle.scope.specs.Trees.{Tree, row_of, first_of, second_of}
use Rattle.scope.specs.Traverse.{traverse, leaves, vars}
use Rattle.scope.specs.Scopes.{contains, Scope, owns, Span, span_in}

-- ---- definitions and assigned names

-- Statement i defines x from the names on a list; they are kept ascending, each once.
unfoldable pub define : ℕ → ℕ → List ℕ → Definition
define i x used = record { statement = i; var = x; used = filter (λ y. elem y used) (range 0 name_bound) }

-- A variable's name.
abbrev pub name_of : Row → ℕ
name_of w = w.name

-- The names that a pattern assigns in a scope (scheduler.rs, `gather_assigned_vars`): its variables that are the query's own.
unfoldable pub assigned_vars : Scope → Tree → List ℕ
assigned_vars s t = filter (owns s) (map name_of (vars (leaves t)))

-- The names of the query in the index of a bracket, which is a pattern.
unfoldable pub index_vars : Scope → Tree → List ℕ
index_vars s e = assigned_vars s (second_of e)

-- Is `input` read?
unfoldable pub reads_input : Sheet → Tree → Bool
reads_input sheet t = any (λ (w : Row). is_input sheet w.name) (vars (traverse t))

-- ---- undefined variables

module _ (sheet : Sheet) (s : Scope) where
  -- Is the variable undefined, neither of this query nor an input?
  unfoldable pub is_undefined : Row → Bool
  is_undefined w = not (is_special sheet w.name) && (not (owns s w.name) && not (contains s.inputs w.name))

  -- The first undefined variable.
  unfoldable pub undefined_var : Tree → Option Row
  undefined_var t = find is_undefined (vars (traverse t))

-- ---- uses; `extras` are the names that the extra argument of the expression binds (`assigned_vars` of the Rust)

module _ (sheet : Sheet) (s : Scope) (extras : List ℕ) where
  -- Does the variable use a name of this query? Special names and those of an extra argument are no uses.
  unfoldable pub is_use : Row → Bool
  is_use w = not (is_special sheet w.name) && (owns s w.name && not (elem w.name extras))

  -- What is used at an expression: a variable, or the names in a bracket's index.
  unfoldable pub used_at : Tree → List ℕ
  used_at e = cond (is_var (row_of e)) (cond (is_use (row_of e)) ((row_of e).name ∷ []) []) (cond (is_ref_brack (row_of e)) (index_vars s e) [])

  -- `used_vars`: the names that the expression uses.
  unfoldable pub used_vars : Tree → List ℕ
  used_vars t = concat_map used_at (traverse t)

  -- The variables that enter `first_use`.
  unfoldable pub variables_used : Tree → List Row
  variables_used t = filter is_use (vars (traverse t))

  -- At a bracket in statement i, each name in the index is defined from the names that what is indexed uses.
  unfoldable pub index_definitions_at : ℕ → Tree → List Definition
  index_definitions_at i e = cond (is_ref_brack (row_of e)) (map (λ x. define i x (used_vars (first_of e))) (index_vars s e)) []

  -- The definitions that the brackets of an expression make.
  unfoldable pub index_definitions : ℕ → Tree → List Definition
  index_definitions i t = concat_map (index_definitions_at i) (traverse t)

-- ---- first uses (`check_first_use`)

-- `entry(..).or_insert(..)`: the first use of a name stays.
unfoldable pub add_first_use : List Span → Span → List Span
add_first_use uses p = cond (is_some (span_in uses p.name)) uses (p ∷ uses)

-- Does a use stand before a variable, by line and column (`check_first_use`)?
abbrev pub is_before : Option Span → Row → Bool
is_before none w = false
is_before (some p) w = ltb p.line w.line || (eqb p.line w.line && ltb p.col w.col)
