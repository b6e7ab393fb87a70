-- A chain's expressions in turn.
use Rattle.std.specs.Prelude.{Bool, ℕ}
use mathlib.Core.List.{List, foldl}
use Rattle.scope.specs.Trees.{Tree, tree_at, chain}
use Rattle.scope.specs.Scopes as spec
use Rattle.scope.specs.Gather.{gather_read, gather_vars}
use Rattle.scope_state.specs.declared.Scope.{Scope}
use Rattle.scope_walk.specs.Inner.Sheets.{sheet_at}
use Rattle.scope_state.specs.Inner.Spans.{Steps}

module _ (t : List ℕ) where
  abbrev pub chain_at : ℕ → List Tree
  chain_at row = chain (tree_at (sheet_at t) row)

  module _ (outer : List ℕ) where
    abbrev pub EachMember : (List spec.Scope → spec.Scope → Tree → spec.Scope) → ℕ → Scope → List ℕ → Scope → List ℕ → Type 0
    EachMember f row = Steps outer (λ parents s. foldl (f parents) s (chain_at row))

    abbrev pub ReadEach : ℕ → Scope → List ℕ → Scope → List ℕ → Type 0
    ReadEach = EachMember (λ parents. gather_read (sheet_at t) parents)

    abbrev pub VarsEach : ℕ → Bool → Scope → List ℕ → Scope → List ℕ → Type 0
    VarsEach row shadow = EachMember (λ parents. gather_vars (sheet_at t) parents shadow) row
