-- Laws of `Around`.
use mathlib.Core.List.{List, [], ◌∷◌, foldl}
use Prim.Native.Nat.{ℕ}
use Rattle.sheet.specs.Sheet.{Sheet}
use Rattle.scope.specs.Trees.{Tree}
use Rattle.scope.specs.Scopes.{Scope, add_input}
use Rattle.original.specs.Inner.Around.{ScopeOf, risen}

-- Inputs rise into such a scope, and it is one still.
pub all-risen : (sheet : Sheet) (parents : List Scope) (q : ℕ) (outputs : List Tree) (xs : List ℕ) (sc : Scope) → ScopeOf sheet parents q outputs sc
    → ScopeOf sheet parents q outputs (foldl add_input sc xs)
all-risen sheet parents q outputs [] sc h = h
all-risen sheet parents q outputs (x ∷ xs) sc h = all-risen sheet parents q outputs xs (add_input sc x) (risen sc x h)
