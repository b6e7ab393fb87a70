-- What two rows side by side come to.
use Rattle.std.specs.Prelude.{cond, ◌&&◌, List, ℕ, eqb, length}
use Rattle.sheet.specs.declared.Row.{Row}
use Rattle.sheet.specs.Kinds.{is_array}
use Rattle.scope.specs.Trees.{tree_at, chain}
use Rattle.scope_walk.specs.Inner.Sheets.{sheet_at}
use Rattle.definition_literal.specs.declared.pairs.Pair.{Pair}
use Rattle.definition_literal.specs.declared.pairs.Pair.TheVariants.{Sides, Chains, Differ}

module _ (t : List ℕ) where
  -- Two arrays, by the chains of their parts.
  abbrev pub chains_by : ℕ → ℕ → Pair
  chains_by lefts rights =
      cond (eqb (length (chain (tree_at (sheet_at t) lefts))) (length (chain (tree_at (sheet_at t) rights))))
      (Chains lefts rights) Differ

  -- The rows a and b at two places.
  abbrev pub pair_by : ℕ → ℕ → Row → Row → Pair
  pair_by left right a b =
      cond (is_array a && is_array b) (chains_by a.first b.first)
      (Sides left right)
