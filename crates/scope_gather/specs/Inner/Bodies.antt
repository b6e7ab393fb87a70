-- The scopes around the body of an `every`.
use mathlib.Core.List.{List, ◌∷◌, ◌++◌, foldl}
use Rattle.std.specs.Prelude.{ℕ, ◌≤◌, length}
use Rattle.scope.specs.Traverse.{vars}
use Rattle.scope.specs.Scopes as spec
use Rattle.scope.specs.Scopes.{no_scope, add_local}
use Rattle.scope_state.specs.Inner.Outers.{Outer}
use Rattle.scope_state.specs.Inner.Chains.{chain_at}
use Rattle.base.specs.Limits as limits
use Rattle.scope_walk.specs.Inner.Sheets.{Accepted, expr_count}

module _ (t outer : List ℕ) where
  -- The scope of the chains at two rows, inside those around.
  abbrev pub EveryBody : ℕ → ℕ → List ℕ → Type 0
  EveryBody key value inner = (parents : List spec.Scope) → Outer outer parents
      → Outer inner (foldl add_local no_scope (vars (chain_at t key ++ chain_at t value)) ∷ parents)

module _ (t outer : List ℕ) where
  -- The key and the value of an `every`; `inner` receives scopes.
  pub record AsksEvery (key value : ℕ) (inner : List ℕ) : Type 0 where
    pub accepted : Accepted t
    pub outer-room : limits.per_name ≤ length outer
    pub key_in : key ≤ expr_count t
    pub value_in : value ≤ expr_count t
    pub inner_room : limits.per_name ≤ length inner
