-- The first uses of the variables of a `some`, and of a pattern's locals.
use Rattle.std.specs.Prelude.{Bool, true, cond, ℕ}
use mathlib.Core.List.{List, foldl}
use Rattle.sheet.specs.declared.Row.{Row}
use Rattle.sheet.specs.Kinds.{is_var}
use Rattle.scope.specs.Traverse.{vars}
use Rattle.scope.specs.Scopes.{is_local}
use Rattle.definition.specs.States.{State}
use Rattle.definition.specs.Using.{check_first_use, check_assigned}
use Rattle.scope_walk.specs.Inner.Exprs.{expr_by}
use Rattle.scope_state.specs.Inner.Chains.{chain_at}
use Rattle.definition_state.specs.declared.Progress.{Progress}
use Rattle.definition_state.specs.Inner.Frames.{guarded, Runs}

-- What a step of the code does, for whatever work.
abbrev pub Checks : List ℕ → (State → State) → Progress → List ℕ → Progress → Type 0
Checks t f p fs r = (work : List ℕ) → Runs t f p fs work r fs work

-- ---- the chain of a `some`

abbrev pub VarChecked : Row → Progress → List ℕ → Progress → Type 0
VarChecked w p fs r = (t : List ℕ) → Checks t (λ s. cond (is_var w) (check_first_use s w) s) p fs r

module _ (t : List ℕ) where
  -- The variables of the chain from a row on.
  abbrev pub VarsChecked : ℕ → Progress → List ℕ → Progress → Type 0
  VarsChecked row p fs r = Checks t (λ s. foldl check_first_use s (vars (chain_at t row))) p fs r

-- ---- a leaf

abbrev pub leaf_check : State → Row → State
leaf_check s w = cond (is_var w) (cond (is_local s.scope w.name) (check_first_use s w) s) s

abbrev pub LeafChecked : Row → Progress → List ℕ → Progress → Type 0
LeafChecked w p fs r = (t : List ℕ) → Checks t (λ s. leaf_check s w) p fs r

module _ (t : List ℕ) where
  -- The pattern at a row, with the rest of its chain if `rest`.
  abbrev pub AssignedChecked : ℕ → Bool → Progress → List ℕ → Progress → Type 0
  AssignedChecked row rest p fs r = Checks t (guarded (check_assigned true (expr_by t rest row))) p fs r
