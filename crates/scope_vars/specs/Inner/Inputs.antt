-- The walk that gathers inputs, step by step.
use Rattle.std.specs.Prelude.{◌≡◌, Bool, cond, List, ℕ, length}
use Rattle.names.specs.Inner.Names.{Names}
use Rattle.sheet.specs.declared.Row.{Row}
use Rattle.sheet.specs.Kinds.{is_var}
use Rattle.scope.specs.Scopes as spec
use Rattle.scope.specs.Gather.{input_var, gather_input_vars}
use Rattle.scope_state.specs.declared.Scope.{Scope}
use Rattle.scope_walk.specs.Inner.Sheets.{sheet_at}
use Rattle.scope_state.specs.Inner.Agrees.{Sets, scope_of}
use Rattle.scope_state.specs.Inner.Outers.{Outer}
use Rattle.scope_walk.specs.Inner.Exprs.{expr_by}

-- What is done to a scope is done to its parts in lent words, whatever its locals are: the flag and the inputs change, these in as many words.
pub record InputParts (does : Scope → Scope → Type 0) (u i : List ℕ) (f : Bool) (j : List ℕ) (g : Bool) : Type 0 where
  pub long : length j ≡ length i
  pub done : (l : Names) → does (scope_of l u i f) (scope_of l u j g)

module _ (t outer : List ℕ) where
  -- What a step of the code does, for all parents that `outer` stands for.
  abbrev Steps : (List spec.Scope → spec.Scope → spec.Scope) → Scope → Scope → Type 0
  Steps f k r = (parents : List spec.Scope) → Outer outer parents → (s : spec.Scope) → Sets k s → Sets r (f parents s)

  abbrev pub InputVar : Row → Scope → Scope → Type 0
  InputVar w k r = Steps (λ parents s. input_var (sheet_at t) parents s w) k r

  abbrev pub InputStep : Row → Scope → Scope → Type 0
  InputStep w k r = Steps (λ parents s. cond (is_var w) (input_var (sheet_at t) parents s w) s) k r

  -- The expression at a row, with the rest of its chain if `rest`.
  abbrev pub InputWalk : ℕ → Bool → Scope → Scope → Type 0
  InputWalk row rest k r = Steps (λ parents s. gather_input_vars (sheet_at t) parents (expr_by t rest row) s) k r

  -- ---- the same of a scope's parts in lent words

  abbrev pub InputVarIn : Row → List ℕ → List ℕ → Bool → List ℕ → Bool → Type 0
  InputVarIn w = InputParts (InputVar w)

  abbrev pub InputStepIn : Row → List ℕ → List ℕ → Bool → List ℕ → Bool → Type 0
  InputStepIn w = InputParts (InputStep w)

  abbrev pub InputWalkIn : ℕ → Bool → List ℕ → List ℕ → Bool → List ℕ → Bool → Type 0
  InputWalkIn row rest = InputParts (InputWalk row rest)
