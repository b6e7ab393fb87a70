-- What the analysis of a query does.
use Rattle.std.specs.Prelude.{◌≡◌, List, ◌++◌, ℕ, Option, None}
use Rattle.names_width.specs.declared.Width.{Width}
use Rattle.scope.specs.Scopes.{Scope}
use Rattle.definition.specs.States.{sound, Run}
use Rattle.definition_once.specs.Inner.OnceWay.{analyze_once}
use Rattle.scope_walk.specs.Inner.Sheets.{sheet_at}
use Rattle.scope_state.specs.Inner.Chains.{chain_at}
use Rattle.scope_state.specs.Inner.Outers.{Outer}
use Rattle.definition_state.specs.declared.Fault.{Fault}
use Rattle.definition_state.specs.Inner.Faults.{meaning}
use Rattle.definition_state.specs.Inner.Table.{Table}

module _ (t : List ℕ) (v : Width) where
  -- A query: the fault, and the table with its schedule and those of the queries nested in it.
  pub record DoesQuery (outer : List ℕ) (query key value levels : ℕ) (work : List ℕ) (r : Option Fault) (work' : List ℕ) : Type 0 where
    pub none : query ≡ 0 → (r ≡ None) × (work' ≡ work)
    pub one : (query ≡ 0 → ⊥) → (parents : List Scope) (run : Run) → Outer outer parents → run.fault ≡ sound → Table v t work run.schedules
        → let end = analyze_once levels (sheet_at t) parents query (chain_at t key ++ chain_at t value) run in
        (meaning r ≡ end.fault) × (end.fault ≡ sound → Table v t work' end.schedules)
