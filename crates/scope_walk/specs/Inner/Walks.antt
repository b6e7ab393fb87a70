-- A walk over what `traverse` meets, or over the leaves of a pattern, goes row by row: the row, the parts that are entered, the rest of the chain.
use Rattle.std.specs.Prelude.{Bool, true, false, ℕ}
use mathlib.Core.List.{List, foldl}
use Rattle.sheet.specs.declared.Counts.{Counts}
use Rattle.sheet.specs.declared.Special.{Special}
use Rattle.sheet.specs.Inner.Sheet.{sheet_of}
use Rattle.scope.specs.Trees.{Tree, nil, node, tree_at}
use Rattle.scope.specs.Traverse.{traverse}

-- An expression without the rest of its chain.
abbrev pub alone : Tree → Tree
alone nil = nil
alone (node w a b c n) = node w a b c nil

module _ (c : Counts) (x : Special) (t : List ℕ) where
  abbrev pub tree : ℕ → Tree
  tree r = tree_at (sheet_of c x t) r

  module _ {S : Type 0} (f : S → Tree → S) where
    -- The walk over a row, with the rest of its chain if `rest`.
    abbrev pub over_by : Bool → S → ℕ → S
    over_by true s r = foldl f s (traverse (tree r))
    over_by false s r = foldl f s (traverse (alone (tree r)))
