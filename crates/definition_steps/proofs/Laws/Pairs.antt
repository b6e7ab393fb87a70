-- Laws of `Pairs`.
use mathlib.Core.Path.{◌≡◌, refl}
use mathlib.Core.Bool.{true, false, cond, ◌&&◌}
use mathlib.Core.List.{List, [], ◌∷◌, ◌++◌}
use Prim.Native.Nat.{ℕ, ◌≤◌}
use lib.Dec.{eqb}
use lib.ListN.{length}
use Rattle.sheet.specs.Inner.Sheet.{row_at}
use Rattle.sheet.specs.Kinds.{is_array, is_pattern}
use Rattle.scope.specs.Trees.{Tree, nil, node, tree_at}
use Rattle.scope.specs.Traverse.{leaves}
use Rattle.definition.specs.Exprs.{Pairing, pair, mismatch, pairings}
use Rattle.scope_walk.specs.Inner.Sheets.{sheet_at, Accepted, expr_count}
use Rattle.scope_walk.specs.Inner.Exprs.{expr_by}
use Rattle.scope_walk.proofs.Laws.Exprs.{none_is, tree_is}
use Rattle.scope_state.specs.Inner.Chains.{chain_at}
use Rattle.definition_steps.specs.Inner.Pairs.{leaves_at}

-- Nothing is paired with nothing.
pairings-nil : (l : Tree) → pairings l nil ≡ []
unfolding pairings
pairings-nil nil = refl
pairings-nil (node w a b c n) = refl

module _ (t : List ℕ) where
  -- The pairings of the chains at two rows.
  abbrev pub pairings_at : ℕ → ℕ → List Pairing
  pairings_at l r = pairings (tree_at (sheet_at t) l) (tree_at (sheet_at t) r)

  module _ (ok : Accepted t) where
    pub pairings-left : (l r : ℕ) → l ≡ 0 → pairings_at l r ≡ []
    unfolding pairings
    pairings-left l r z = rw (z, none_is t ok true)

    pub pairings_right : (l r : ℕ) → r ≡ 0 → pairings_at l r ≡ []
    pairings_right l r z = rw (z, none_is t ok true) (pairings-nil (tree_at (sheet_at t) l))

    -- The first of each, then the rest of both chains.
    pub pairings-row : (l : ℕ) → (l ≡ 0 → ⊥) → l ≤ expr_count t → (r : ℕ) → (r ≡ 0 → ⊥) → r ≤ expr_count t
        → let w = row_at t l in let v = row_at t r in
        pairings_at l r
        ≡ (cond (is_array w && is_array v)
        (cond (eqb (length (chain_at t w.first)) (length (chain_at t v.first))) (pairings_at w.first v.first) (mismatch v ∷ []))
        (pair (expr_by t false l) (expr_by t false r) ∷ [])
        ++ pairings_at w.next v.next)
    unfolding pairings
    pairings-row l some high r there upto = rw (tree_is t ok l some high, tree_is t ok r there upto)

    pub leaves_at-none : (row : ℕ) → row ≡ 0 → leaves_at t row ≡ []
    unfolding leaves
    leaves_at-none row z = rw (z, none_is t ok true)

    module _ (row : ℕ) (some : row ≡ 0 → ⊥) (high : row ≤ expr_count t) where
      pub leaves_at-row : leaves_at t row ≡ (cond (is_pattern (row_at t row)) (leaves_at t (row_at t row).first) (expr_by t false row ∷ []) ++ (leaves_at t) (row_at t row).next)
      unfolding leaves
      leaves_at-row = rw (tree_is t ok row some high)
