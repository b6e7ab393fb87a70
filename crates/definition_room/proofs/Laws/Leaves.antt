-- Laws of `Leaves`.
use mathlib.Core.Path.{◌≡◌, refl}
use mathlib.Core.Bool.{Bool, true, false, cond}
use mathlib.Core.List.{List, [], ◌∷◌, ◌++◌}
use Prim.Native.Nat.{suc, ◌+◌, ◌≤◌}
use native.Mathlib.Omega.{arith}
use lib.ListN.{length, length-append}
use Rattle.sheet.specs.declared.Row.{Row}
use Rattle.sheet.specs.Kinds.{is_var, is_pattern, is_ref_brack}
use Rattle.scope.specs.Trees.{Tree, nil, node, row_of, chain}
use Rattle.scope.specs.Traverse.{children_of, entered, traverse, leaves, vars}
use Rattle.base.proofs.Laws.ListLaws.{concat_map-append}
use Rattle.definition_room.specs.Inner.Sizes.{total, size}
use Rattle.definition_room.proofs.Laws.Lists.{total-append, total-entered}
use Rattle.definition_room.specs.Inner.Leaves.{bracket_vars, index_count, pattern_vars}

-- The variables of two lists add up.
pub vars-append : (k l : List Tree) → length (vars (k ++ l)) ≡ length (vars k) + length (vars l)
vars-append k l =
    rw (concat_map-append (λ e. cond (is_var (row_of e)) (row_of e ∷ []) []) k l) (length-append (vars k) (vars l))

bracket_vars-nil : bracket_vars nil ≡ 0
unfolding bracket_vars traverse
bracket_vars-nil = refl

node-fits : (w : Row) (e a b c n : Tree) → total index_count ((e ∷ entered (children_of w) (traverse a) (traverse b) (traverse c)) ++ traverse n)
    ≤ index_count e + (bracket_vars a + (bracket_vars b + (bracket_vars c + bracket_vars n)))
unfolding bracket_vars
node-fits w e a b c n =
    omega (
      arith,
      total-append index_count (entered (children_of w) (traverse a) (traverse b) (traverse c)) (traverse n),
      total-entered index_count w (traverse a) (traverse b) (traverse c),
    )

-- Those of a node are in its own index, below it, or behind it.
pub bracket_vars-node : (w : Row) (a b c n : Tree)
    → bracket_vars (node w a b c n) ≤ index_count (node w a b c nil) + (bracket_vars a + (bracket_vars b + (bracket_vars c + bracket_vars n)))
unfolding bracket_vars traverse
bracket_vars-node w a b c n = node-fits w (node w a b c nil) a b c n

-- The index of a bracket is its second field.
index-fits : (w : Row) (a b c : Tree) → index_count (node w a b c nil) ≤ pattern_vars b
unfolding index_count
index-fits w a b c = go (is_ref_brack w)
  where
    go : (r : Bool) → cond r (pattern_vars b) 0 ≤ pattern_vars b
    go true = omega arith
    go false = omega arith

-- An expression is one variable or none.
vars-one : (e : Tree) → length (vars (e ∷ [])) ≤ 1
vars-one e = go (is_var (row_of e))
  where
    go : (b : Bool) → length (cond b (row_of e ∷ []) [] ++ []) ≤ 1
    go true = omega arith
    go false = omega arith

-- ---- what fits into an expression

-- A pattern's variables and those of its brackets' indexes are different expressions of it.
pub pattern-fits : (t : Tree) → pattern_vars t + bracket_vars t ≤ size t
unfolding pattern_vars leaves size
pattern-fits nil = omega (arith, bracket_vars-nil)
pattern-fits (node w a b c n) = go (is_pattern w) (pattern-fits a) (pattern-fits b) (pattern-fits c) (pattern-fits n)
  where
    go : (p : Bool) → pattern_vars a + bracket_vars a ≤ size a → pattern_vars b + bracket_vars b ≤ size b
        → pattern_vars c + bracket_vars c ≤ size c → pattern_vars n + bracket_vars n ≤ size n
        → length (vars (cond p (leaves a) (node w a b c nil ∷ []) ++ leaves n)) + bracket_vars (node w a b c n)
        ≤ suc (size a + (size b + (size c + size n)))
    go true ia ib ic im = omega (arith, vars-append (leaves a) (leaves n), bracket_vars-node w a b c n, index-fits w a b c)
    go false ia ib ic im =
        omega (arith, vars-append (node w a b c nil ∷ []) (leaves n), vars-one (node w a b c nil), bracket_vars-node w a b c n, index-fits w a b c)

-- So the variables in the indexes alone are no more.
pub brackets_fit : (t : Tree) → bracket_vars t ≤ size t
brackets_fit t = omega (arith, pattern-fits t)

-- An expression itself is one more.
pub node-fit : (w : Row) (a b c n : Tree) → suc (bracket_vars (node w a b c n)) ≤ size (node w a b c n)
unfolding size
node-fit w a b c n =
    omega (arith, bracket_vars-node w a b c n, index-fits w a b c, pattern-fits a, pattern-fits b, pattern-fits c, pattern-fits n)

-- The leaves of a pattern, each with its brackets' indexes, and its variables.
pub leaves-fit : (t : Tree) → pattern_vars t + total bracket_vars (leaves t) ≤ size t
unfolding pattern_vars leaves size
leaves-fit nil = omega arith
leaves-fit (node w a b c n) = go (is_pattern w) (leaves-fit a) (leaves-fit n)
  where
    go : (p : Bool) → length (vars (leaves a)) + total bracket_vars (leaves a) ≤ size a
        → length (vars (leaves n)) + total bracket_vars (leaves n) ≤ size n
        → length (vars (cond p (leaves a) (node w a b c nil ∷ []) ++ leaves n))
        + total bracket_vars (cond p (leaves a) (node w a b c nil ∷ []) ++ leaves n) ≤ size (node w a b c n)
    go true ia im = omega (arith, vars-append (leaves a) (leaves n), total-append bracket_vars (leaves a) (leaves n))
    go false ia im = omega (arith, vars-append (node w a b c nil ∷ []) (leaves n), vars-one (node w a b c nil), node-fit w a b c nil)

-- ---- chains

-- A chain's members add up to the chain.
pub pattern_vars-chain : (t : Tree) → total pattern_vars (chain t) ≡ pattern_vars t
unfolding pattern_vars leaves chain
pattern_vars-chain nil = refl
pattern_vars-chain (node w a b c n) = go (is_pattern w) (pattern_vars-chain n)
  where
    go : (p : Bool) → total pattern_vars (chain n) ≡ length (vars (leaves n))
        → length (vars (cond p (leaves a) (node w a b c nil ∷ []) ++ [])) + total pattern_vars (chain n)
        ≡ length (vars (cond p (leaves a) (node w a b c nil ∷ []) ++ leaves n))
    go p h =
        omega (
          arith,
          vars-append (cond p (leaves a) (node w a b c nil ∷ [])) [],
          vars-append (cond p (leaves a) (node w a b c nil ∷ [])) (leaves n),
        )

pub size-chain : (t : Tree) → total size (chain t) ≡ size t
unfolding size chain
size-chain nil = refl
size-chain (node w a b c n) = omega (arith, size-chain n)
