-- Laws of `Pairs`.
use mathlib.Core.Path.{◌≡◌, sym}
use Rattle.definition_literal.specs.declared.pairs.Pair.TheVariants.{Chains, Differ}
use mathlib.Core.List.{List}
use Prim.Native.Nat.{ℕ}
use borrow.Author.Tests.{eq-eqb, ne_eqb}
use Rattle.scope_paths.specs.declared.extra.End.{End}
use Rattle.scope_paths.specs.Inner.Extra.{EndAt}
use Rattle.definition_literal.specs.Inner.Pairs.{chains_by}

module _ (t : List ℕ) where
  -- By the ends of the two chains, as the code has them.
  module _ (lefts rights : ℕ) (a : End) (h : EndAt t lefts a) (b : End) (g : EndAt t rights b) where
    pub same-lengths : a.count ≡ b.count → Chains lefts rights ≡ chains_by t lefts rights
    same-lengths e = sym (rw (h.count, g.count, eq-eqb a.count b.count e))

    pub other-lengths : (a.count ≡ b.count → ⊥) → Differ ≡ chains_by t lefts rights
    other-lengths n = sym (rw (h.count, g.count, ne_eqb a.count b.count n))
