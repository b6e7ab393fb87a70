-- How often an expression or a statement names queries, where each naming of query q counts as g q.
use mathlib.Core.Path.{◌≡◌, refl}
use mathlib.Core.Bool.{Bool, true, false, cond, ◌&&◌}
use mathlib.Core.List.{[], ◌∷◌, ◌++◌}
use Prim.Native.Nat.{ℕ, ◌+◌, ◌≤◌}
use native.Mathlib.Omega.{arith}
use lib.Dec.{eqb}
use lib.ListN.{length}
use Rattle.sheet.specs.Kinds.{is_array, is_pattern, is_compr}
use Rattle.scope.specs.Trees.{Tree, nil, node, first_of, second_of, chain}
use Rattle.scope.specs.Traverse.{leaves}
use Rattle.scope.specs.Statements.{Literal, some_vars, some_in, expr, not_expr, every, Stmt}
use Rattle.definition.specs.Exprs.{Pairing, pair, mismatch, pairings}
use Rattle.definition_room.specs.Inner.Sizes.{total}
use Rattle.definition_room.proofs.Laws.Lists.{total-append, total_mono}
use Rattle.original.specs.Inner.Places.{body_of}

module _ (g : ℕ → ℕ) where
  -- The queries of a tree's comprehensions, the rest of the chain with it.
  unfoldable pub tally : Tree → ℕ
  tally nil = 0
  tally (node w a b c n) = cond (is_compr w) (g w.third) 0 + (tally a + (tally b + (tally c + tally n)))

  -- Those of a literal's expressions.
  abbrev pub literal_tally : Literal → ℕ
  literal_tally (some_vars vs) = tally vs
  literal_tally (some_in key value collection) = tally key + (tally value + tally collection)
  literal_tally (expr e) = tally e
  literal_tally (not_expr e) = tally e
  literal_tally (every key value domain query) = tally key + (tally value + tally domain)

  -- Those of a statement: of its modifiers, of its literal, and the body of an `every`.
  unfoldable pub stmt_tally : Stmt → ℕ
  stmt_tally st = total tally st.with_mods + (literal_tally st.literal + total g (body_of st.literal))

  -- ---- parts

  -- A chain's members add up to the chain.
  pub tally-chain : (t : Tree) → total tally (chain t) ≡ tally t
  unfolding tally chain
  tally-chain nil = refl
  tally-chain (node w a b c n) = omega (arith, tally-chain n)

  -- The leaves of a pattern are in it.
  pub tally-leaves : (t : Tree) → total tally (leaves t) ≤ tally t
  unfolding tally leaves
  tally-leaves nil = omega arith
  tally-leaves (node w a b c n) = go (is_pattern w) (tally-leaves a) (tally-leaves n)
    where
      go : (p : Bool) → total tally (leaves a) ≤ tally a → total tally (leaves n) ≤ tally n
          → total tally (cond p (leaves a) (node w a b c nil ∷ []) ++ leaves n)
          ≤ cond (is_compr w) (g w.third) 0 + (tally a + (tally b + (tally c + tally n)))
      go true x y = omega (arith, total-append tally (leaves a) (leaves n))
      go false x y = omega arith

  -- Of both sides of a pair.
  abbrev pub pair_tally : Pairing → ℕ
  pair_tally (pair lhs rhs) = tally lhs + tally rhs
  pair_tally (mismatch v) = 0

  -- The pairs of an assignment are in its sides.
  pub tally-pairings : (l r : Tree) → total pair_tally (pairings l r) ≤ tally l + tally r
  unfolding tally pairings
  tally-pairings nil r = omega arith
  tally-pairings (node w a b c n) nil = omega arith
  tally-pairings (node w a b c n) (node v d e f m) =
      go (is_array w && is_array v) (eqb (length (chain a)) (length (chain d))) (tally-pairings a d) (tally-pairings n m)
    where
      go : (x y : Bool) → total pair_tally (pairings a d) ≤ tally a + tally d → total pair_tally (pairings n m) ≤ tally n + tally m
          → total pair_tally
          (cond x (cond y (pairings a d) (mismatch v ∷ [])) (pair (node w a b c nil) (node v d e f nil) ∷ []) ++ pairings n m)
          ≤ (cond (is_compr w) (g w.third) 0 + (tally a + (tally b + (tally c + tally n))))
          + (cond (is_compr v) (g v.third) 0 + (tally d + (tally e + (tally f + tally m))))
      go true true p q = omega (arith, total-append pair_tally (pairings a d) (pairings n m))
      go true false p q = omega arith
      go false y p q = omega arith

  -- The sides of an assignment are in it.
  pub tally_sides : (e : Tree) → tally (first_of e) + tally (second_of e) ≤ tally e
  unfolding tally
  tally_sides nil = omega arith
  tally_sides (node w a b c n) = omega arith

-- ---- where each query counts for more, so does each tree and statement

module _ (g h : ℕ → ℕ) (more : (q : ℕ) → g q ≤ h q) where
  -- A tree.
  pub tally_mono : (t : Tree) → tally g t ≤ tally h t
  unfolding tally
  tally_mono nil = omega arith
  tally_mono (node w a b c n) = go (is_compr w) (tally_mono a) (tally_mono b) (tally_mono c) (tally_mono n)
    where
      go : (p : Bool) → tally g a ≤ tally h a → tally g b ≤ tally h b → tally g c ≤ tally h c → tally g n ≤ tally h n
          → cond p (g w.third) 0 + (tally g a + (tally g b + (tally g c + tally g n)))
          ≤ cond p (h w.third) 0 + (tally h a + (tally h b + (tally h c + tally h n)))
      go true ia ib ic im = omega (arith, more w.third)
      go false ia ib ic im = omega arith

  -- A literal.
  literal_mono : (l : Literal) → literal_tally g l ≤ literal_tally h l
  literal_mono (some_vars vs) = tally_mono vs
  literal_mono (some_in key value collection) = omega (arith, tally_mono key, tally_mono value, tally_mono collection)
  literal_mono (expr e) = tally_mono e
  literal_mono (not_expr e) = tally_mono e
  literal_mono (every key value domain query) = omega (arith, tally_mono key, tally_mono value, tally_mono domain)

  -- A statement.
  pub stmt_mono : (st : Stmt) → stmt_tally g st ≤ stmt_tally h st
  unfolding stmt_tally
  stmt_mono st =
      omega (
        arith,
        total_mono (tally g) (tally h) tally_mono st.with_mods,
        literal_mono st.literal,
        total_mono g h more (body_of st.literal),
      )
