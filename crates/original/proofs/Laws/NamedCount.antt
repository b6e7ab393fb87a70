-- How often a query stands among those that statements and outputs name, each with what stands below it: no more often than by the tally.
use mathlib.Core.Path.{◌≡◌}
use mathlib.Core.Bool.{Bool, true, false, cond}
use mathlib.Core.List.{List, [], ◌∷◌, ◌++◌}
use mathlib.Core.Option.{Option, none, some}
use mathlib.Core.Logic.{◌⊎◌, inl, inr}
use Prim.Native.Nat.{ℕ, ◌+◌, ◌≤◌}
use native.Mathlib.Omega.{arith}
use Rattle.base.proofs.Laws.Truth.{bool_cases}
use Rattle.base.specs.Lists.{concat_map}
use Rattle.sheet.specs.declared.Row.{Row}
use Rattle.sheet.specs.Sheet.{Sheet}
use Rattle.sheet.specs.Kinds.{is_assign, is_compr}
use Rattle.scope.specs.Trees.{Tree, nil, node, row_of, first_of, second_of, chain}
use Rattle.scope.specs.Traverse.{children_of, entered, traverse, leaves, comprs}
use Rattle.scope.specs.Paths.{get_extra_arg}
use Rattle.scope.specs.Statements.{Literal, some_vars, some_in, expr, not_expr, every, Stmt}
use Rattle.scope_walk.proofs.Laws.Kids.{compr_enters_nothing}
use Rattle.definition.specs.Exprs.{Pairing, pair, mismatch, pairings}
use Rattle.definition_room.specs.Inner.Sizes.{total}
use Rattle.definition_room.proofs.Laws.Lists.{total-append, total-entered, total_mono}
use Rattle.original.specs.Inner.Places.{pair_comprs, expr_comprs, call_comprs, literal_comprs, stmt_comprs, body_of, compr_family, queries_named}
use Rattle.original.proofs.Laws.Counting.{is, count, total-concat_map}
use Rattle.original.proofs.Laws.Tally.{tally, literal_tally, stmt_tally, tally-chain, tally-leaves, pair_tally, tally-pairings, tally_sides}

module _ (k : ℕ) (below : ℕ → List Tree → List ℕ) (g : ℕ → ℕ)
    (few : (q : ℕ) (outputs : List Tree) → count k (below q outputs) ≤ g q + total (tally g) outputs) where
  -- ---- expressions

  -- How often it stands at a comprehension and below.
  abbrev cost : Tree → ℕ
  cost e = count k (compr_family below e)

  -- How often it stands at an expression that `traverse` meets.
  abbrev cost_met : Tree → ℕ
  cost_met e = total cost (cond (is_compr (row_of e)) (e ∷ []) [])

  -- A comprehension's outputs are its first and its second field.
  compr-few : (w : Row) (a b c : Tree) → cost (node w a b c nil) ≤ g w.third + (tally g a + tally g b)
  compr-few w a b c =
      omega (
        arith,
        few w.third (chain a ++ chain b),
        total-append (tally g) (chain a) (chain b),
        tally-chain g a,
        tally-chain g b,
      )

  -- A comprehension is counted with its fields, of which nothing is entered.
  node-few : (w : Row) (a b c : Tree) → total cost_met (traverse a) ≤ tally g a → total cost_met (traverse b) ≤ tally g b
      → total cost_met (traverse c) ≤ tally g c
      → cost_met (node w a b c nil) + total cost_met (entered (children_of w) (traverse a) (traverse b) (traverse c))
      ≤ cond (is_compr w) (g w.third) 0 + (tally g a + (tally g b + tally g c))
  node-few w a b c x y z = go (bool_cases (is_compr w))
    where
      go : (is_compr w ≡ true) ⊎ (is_compr w ≡ false)
          → cost_met (node w a b c nil) + total cost_met (entered (children_of w) (traverse a) (traverse b) (traverse c))
          ≤ cond (is_compr w) (g w.third) 0 + (tally g a + (tally g b + tally g c))
      go (inl p) = rw (p, compr_enters_nothing w p) (omega (arith, compr-few w a b c))
      go (inr p) = rw p (omega (arith, total-entered cost_met w (traverse a) (traverse b) (traverse c)))

  -- What `traverse` meets is in the tree.
  traverse-few : (t : Tree) → total cost_met (traverse t) ≤ tally g t
  unfolding traverse tally
  traverse-few nil = omega arith
  traverse-few (node w a b c n) =
      let rest = entered (children_of w) (traverse a) (traverse b) (traverse c) in
      omega (
        arith,
        total-append cost_met rest (traverse n),
        node-few w a b c (traverse-few a) (traverse-few b) (traverse-few c),
        traverse-few n,
      )

  -- So are its comprehensions.
  comprs-few : (t : Tree) → total cost (comprs t) ≤ tally g t
  comprs-few t = omega (arith, total-concat_map cost (λ e. cond (is_compr (row_of e)) (e ∷ []) []) (traverse t), traverse-few t)

  -- And those of several trees.
  all-few : (l : List Tree) → total cost (concat_map comprs l) ≤ total (tally g) l
  all-few l = omega (arith, total-concat_map cost comprs l, total_mono (λ t. total cost (comprs t)) (tally g) comprs-few l)

  -- ---- statements

  -- Of a pair.
  pair-few : (p : Pairing) → total cost (pair_comprs p) ≤ pair_tally g p
  pair-few (pair lhs rhs) = omega (arith, total-append cost (comprs lhs) (comprs rhs), comprs-few lhs, comprs-few rhs)
  pair-few (mismatch v) = omega arith

  -- The comprehensions of an expression.
  expr-few : (e : Tree) → total cost (expr_comprs e) ≤ tally g e
  unfolding expr_comprs
  expr-few e = go (is_assign (row_of e))
    where
      go : (b : Bool) → total cost (cond b (concat_map pair_comprs (pairings (first_of e) (second_of e))) (comprs e)) ≤ tally g e
      go true =
          omega (
            arith,
            total-concat_map cost pair_comprs (pairings (first_of e) (second_of e)),
            total_mono (λ p. total cost (pair_comprs p)) (pair_tally g) pair-few (pairings (first_of e) (second_of e)),
            tally-pairings g (first_of e) (second_of e),
            tally_sides g e,
          )
      go false = comprs-few e

  -- Of an expression, with its extra argument if it has one.
  call_few : (o : Option Tree) (e : Tree) → total cost (call_comprs o e) ≤ tally g e
  call_few none e = expr-few e
  call_few (some arg) e = comprs-few e

  -- Of a literal.
  literal-few : (sheet : Sheet) (l : Literal) → total cost (literal_comprs sheet l) ≤ literal_tally g l
  unfolding literal_comprs
  literal-few sheet (some_vars vs) = omega arith
  literal-few sheet (some_in key value collection) =
      omega (
        arith,
        total-append cost (comprs collection) (concat_map comprs (leaves key ++ leaves value)),
        comprs-few collection,
        all-few (leaves key ++ leaves value),
        total-append (tally g) (leaves key) (leaves value),
        tally-leaves g key,
        tally-leaves g value,
      )
  literal-few sheet (expr e) = call_few (get_extra_arg sheet e) e
  literal-few sheet (not_expr e) = expr-few e
  literal-few sheet (every key value domain query) = omega (arith, comprs-few domain)

  -- The body of an `every` has no outputs.
  body-few : (q : ℕ) → count k (below q []) ≤ g q
  body-few q = omega (arith, few q [])

  -- Of a statement, with the body of an `every`.
  stmt_few : (sheet : Sheet) (st : Stmt)
      → count k (concat_map (compr_family below) (stmt_comprs sheet st)) + count k (concat_map (λ b. below b []) (body_of st.literal))
      ≤ stmt_tally g st
  unfolding stmt_comprs stmt_tally
  stmt_few sheet st =
      omega (
        arith,
        total-concat_map (is k) (compr_family below) (concat_map comprs st.with_mods ++ literal_comprs sheet st.literal),
        total-append cost (concat_map comprs st.with_mods) (literal_comprs sheet st.literal),
        all-few st.with_mods,
        literal-few sheet st.literal,
        total-concat_map (is k) (λ b. below b []) (body_of st.literal),
        total_mono (λ b. count k (below b [])) g body-few (body_of st.literal),
      )

  -- All that statements and outputs name.
  pub named-few : (sheet : Sheet) (stmts : List Stmt) (outputs : List Tree)
      → count k (queries_named below sheet stmts outputs) ≤ total (stmt_tally g) stmts + total (tally g) outputs
  unfolding queries_named
  named-few sheet [] outputs =
      omega (arith, total-concat_map (is k) (compr_family below) (concat_map comprs outputs), all-few outputs)
  named-few sheet (st ∷ stmts) outputs =
      let here = concat_map (compr_family below) (stmt_comprs sheet st) in
      let inside = concat_map (λ b. below b []) (body_of st.literal) in
      let rest = queries_named below sheet stmts outputs in
      omega (
        arith,
        total-append (is k) here (inside ++ rest),
        total-append (is k) inside rest,
        stmt_few sheet st,
        named-few sheet stmts outputs,
      )
