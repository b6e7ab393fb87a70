-- Comprehensions: each is a query, analysed below the scope that it stands in, and what it takes from there rises.
-- Beside: scheduler.rs, `process_comprs` and `propagate_nested_scope`.
use Rattle.std.specs.Prelude.{not, ℕ}
use mathlib.Core.List.{List, [], ◌∷◌, ◌++◌, map, foldl}
use Rattle.base.specs.Lists.{filter, concat_map}
use Rattle.sheet.specs.Sheet.{Sheet}
use Rattle.scope.specs.Trees.{Tree, row_of}
use Rattle.scope.specs.Traverse.{comprs}
use Rattle.scope.specs.Scopes.{elements, Scope, owns, add_input, use_input}
use Rattle.definition.specs.Uses.{used_vars}
use Rattle.definition.specs.States.{State, set_scope, add_first_uses, in_turn, Way}
use Rattle.definition.specs.Using.{gather_used_vars}

-- What the modifiers of a statement use (`with_mods_used_vars`, `with_mods_comprs`).
pub record Mods : Type 0 where
  pub used_vars : List ℕ
  pub comprs : List Tree

module _ (sheet : Sheet) (way : Way) where
  -- ---- what a comprehension's query takes from the scope around it

  -- `propagate_nested_scope`, of a comprehension that stands in the scope sc: its input flag, and those of its inputs that are not this
  -- query's own.
  unfoldable pub propagate : Scope → Tree → State → State
  propagate sc e s =
      set_scope
      (foldl add_input (use_input (way.compr_scope sc s e).uses_input s.scope)
      (filter (λ x. not (owns s.scope x)) (elements (way.compr_scope sc s e).inputs))) s

  -- Its inputs that are this query's own are used.
  unfoldable pub comprs_use : List Tree → State → List ℕ
  comprs_use cs s = concat_map (λ e. filter (owns s.scope) (elements (way.compr_scope s.scope s e).inputs)) cs

  -- They are used where the comprehension stands.
  unfoldable pub use_compr : Tree → State → State
  use_compr e s = add_first_uses (map (λ x. record { name = x; line = (row_of e).line; col = (row_of e).col }) (comprs_use (e ∷ []) s)) s

  -- All that an expression uses, the modifiers and the comprehensions with it. The Rust lists these names while it walks the expression and
  -- analyses the comprehensions; here they are asked for when that is done. Until then a scope changes in its inputs and its input flag
  -- alone, and both what an expression uses and what a nested query takes depend on locals and unscoped alone (`analyze-same` in `original`).
  unfoldable pub all_used : List ℕ → Mods → Tree → State → List ℕ
  all_used extras m t s = used_vars sheet s.scope extras t ++ (m.used_vars ++ comprs_use (comprs t ++ m.comprs) s)

  -- ---- analysis

  -- One comprehension: its query is analysed, and what it takes rises.
  unfoldable pub process_compr : State → Tree → State
  process_compr s e = in_turn (way.compr s.scope e ∷ (λ t. propagate t.scope e t) ∷ use_compr e ∷ []) s

  -- `process_comprs`.
  unfoldable pub process_comprs : List Tree → State → State
  process_comprs cs s = foldl process_compr s cs

  -- An expression of statement i with its comprehensions and those of the modifiers.
  unfoldable pub use_expr : ℕ → List ℕ → Mods → Tree → State → State
  use_expr i extras m t s = in_turn (gather_used_vars sheet i extras t ∷ process_comprs (comprs t ++ m.comprs) ∷ []) s
