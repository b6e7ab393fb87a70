-- The tallies of a sheet in the tables, from row to row.
use mathlib.Core.Path.{◌≡◌, refl, ap, ◌∙◌}
use mathlib.Core.Bool.{Bool, true, false, cond}
use mathlib.Core.List.{List, ◌∷◌}
use mathlib.Core.Logic.{◌⊎◌, inl, inr}
use Prim.Native.Nat.{ℕ, zero, suc, ◌+◌, ◌≤◌}
use native.Mathlib.Omega.{arith}
use lib.Dec.{eqb}
use lib.ListN.{get_or}
use borrow.Author.Tests.{eqb-false}
use Rattle.base.proofs.Laws.Truth.{bool_cases}
use Rattle.sheet.specs.declared.Counts.{Counts}
use Rattle.sheet.specs.declared.Statement.{Statement}
use Rattle.sheet.specs.Inner.Records.{expr_at, statement_row_at, first_at}
use Rattle.sheet.specs.declared.Special.{Special}
use Rattle.sheet_facts.proofs.Laws.Accepted.{FineRows}
use Rattle.sheet_facts.specs.Inner.Facts.{SheetFacts}
use Rattle.sheet.specs.Sheet.{Sheet}
use Rattle.sheet.specs.Inner.Sheet.{row_at, sheet_of}
use Rattle.scope.specs.Trees.{Tree, node, third_of, tree_at, chain}
use Rattle.scope.specs.Statements.{Literal, Stmt, literal_of, stmts_of}
use Rattle.scope.proofs.Laws.StatementWalks.{stmt_at, stmts_at, stmts_none, stmts_row, stmts_of_lem}
use Rattle.scope_walk.proofs.Laws.RowTrees.{rows_at, tree-none, tree-row, statement-is, statements-length, statements_onwards}
use Rattle.definition_room.specs.Inner.Sizes.{total}
use Rattle.definition_room.proofs.Laws.Worth.{statement_worth}
use Rattle.definition_room.proofs.Laws.Listed.{compr_kind}
use Rattle.definition_room.proofs.Laws.Parts.{parts_at, wholes_at}
use Rattle.original.specs.Inner.Places.{body_of}
use Rattle.original.proofs.Laws.Tally.{tally, literal_tally, stmt_tally, tally-chain}
use Rattle.original.proofs.Laws.QueryFields.{query_value, every-worth}
use Rattle.sheet.specs.Inner.Rows.{in_tables}

module _ (c : Counts) (x : Special) (t : List ℕ) (g : ℕ → ℕ) where
  -- The sheet in the tables.
  abbrev sheet : Sheet
  sheet = sheet_of c x t

  -- Of the tree at row r.
  unfoldable pub tally_at : ℕ → ℕ
  tally_at r = tally g (tree_at sheet r)

  -- Of the statements from row s on.
  unfoldable pub tally_from : ℕ → ℕ
  tally_from s = total (stmt_tally g) (stmts_at sheet s)

  -- The expressions of a literal are those that its row names.
  literal_wholes : (st : Statement) → literal_tally g (literal_of sheet st) ≤ tally_at st.first + (tally_at st.second + tally_at st.third)
  unfolding literal_of tally_at
  literal_wholes st = go (eqb st.form 1) (eqb st.form 2) (eqb st.form 3) (eqb st.form 4)
    where
      one : Tree
      one = tree_at sheet st.first

      two : Tree
      two = tree_at sheet st.second

      three : Tree
      three = tree_at sheet st.third

      go : (a b d e : Bool) → literal_tally g (cond a (Literal.some_vars one) (cond b (Literal.some_in one two three) (cond d (Literal.expr one)
          (cond e (Literal.not_expr one) (Literal.every one two three st.query))))) ≤ tally g one + (tally g two + tally g three)
      go true b d e = omega arith
      go false true d e = omega arith
      go false false true e = omega arith
      go false false false true = omega arith
      go false false false false = omega arith

  module _ (facts : SheetFacts c (in_tables t)) where
    -- ---- expressions

    -- Row 0 has no tree.
    pub tally-none : tally_at 0 ≡ 0
    unfolding tally_at tally
    tally-none = ap (tally g) (tree-none c x t facts)

    -- The tally of a node, by what its row names.
    node-parts : (r : ℕ) → let w = row_at t r in let tree = tree_at sheet in
        tally g (node w (tree w.first) (tree w.second) (tree (third_of w)) (tree w.next))
        ≡ cond (compr_kind (expr_at t r).kind) (g (expr_at t r).third) 0 + parts_at t tally_at r
    unfolding tally row_at parts_at tally_at
    node-parts r = refl

    -- A tree is its row's query, if the row is a comprehension, and the parts.
    pub tally-row : (r : ℕ) → 1 ≤ r → r ≤ c.exprs
        → tally_at r ≡ cond (compr_kind (expr_at t r).kind) (g (expr_at t r).third) 0 + parts_at t tally_at r
    unfolding tally_at
    tally-row r a b = ap (tally g) (tree-row c x t facts r a b) ∙ node-parts r

    -- ---- statements

    -- From row 0 on there is none.
    pub tally_from-none : tally_from 0 ≡ 0
    unfolding tally_from
    tally_from-none = ap (λ (l : List Stmt). total (stmt_tally g) l) (stmts_none sheet)

    -- A statement of the tables, with its modifiers.
    stmt_of : Statement → Stmt
    stmt_of st = record { literal = literal_of sheet st; with_mods = chain (tree_at sheet st.with) }

    -- It is statement s of the sheet.
    stmt_is : (s : ℕ) → 1 ≤ s → s ≤ c.statements → stmt_at sheet s ≡ stmt_of (statement_row_at t s)
    unfolding stmt_at stmt_of
    stmt_is s a b = ap stmt_of (statement-is c x t s a b)

    -- It names no more than its row does.
    stmt_wholes : (s : ℕ) → stmt_tally g (stmt_of (statement_row_at t s)) ≤ wholes_at t tally_at s + total g (body_of (literal_of sheet (statement_row_at t s)))
    unfolding stmt_tally stmt_of wholes_at tally_at
    stmt_wholes s = omega (arith, literal_wholes (statement_row_at t s), tally-chain g (tree_at sheet (statement_row_at t s).with))

    module _ (ok : FineRows c (in_tables t)) where
      -- The body of an `every` is named by the statement's row.
      body-worth : (s : ℕ) → 1 ≤ s → s ≤ c.statements → total g (body_of (literal_of sheet (statement_row_at t s))) ≤ statement_worth c (query_value c g) t s
      unfolding literal_of
      body-worth s low high = go (bool_cases (eqb form 1)) (bool_cases (eqb form 2)) (bool_cases (eqb form 3)) (bool_cases (eqb form 4))
        where
          form : ℕ
          form = (statement_row_at t s).form

          go : (eqb form 1 ≡ true) ⊎ (eqb form 1 ≡ false) → (eqb form 2 ≡ true) ⊎ (eqb form 2 ≡ false)
              → (eqb form 3 ≡ true) ⊎ (eqb form 3 ≡ false) → (eqb form 4 ≡ true) ⊎ (eqb form 4 ≡ false)
              → total g (body_of (literal_of sheet (statement_row_at t s))) ≤ statement_worth c (query_value c g) t s
          go (inl p) q u v = rw p (omega arith)
          go (inr p) (inl q) u v = rw (p, q) (omega arith)
          go (inr p) (inr q) (inl u) v = rw (p, q, u) (omega arith)
          go (inr p) (inr q) (inr u) (inl v) = rw (p, q, u, v) (omega arith)
          go (inr p) (inr q) (inr u) (inr v) =
              let k = facts.statement s low high in
              let a = eqb-false form 1 p in
              let b = eqb-false form 2 q in
              let d = eqb-false form 3 u in
              let e = eqb-false form 4 v in
              let five : form ≡ 5 = omega (arith, k.form-low, k.form-high) in
              rw (p, q, u, v) (omega (arith, every-worth c g t ok s low high five))

      -- The statements from a row on are the expressions that it names, the body of an `every`, and the rest.
      pub from_row : (s : ℕ) → 1 ≤ s → s ≤ c.statements
          → tally_from s ≤ wholes_at t tally_at s + (statement_worth c (query_value c g) t s + tally_from (statement_row_at t s).next)
      unfolding tally_from
      from_row s a b =
          omega (
            arith,
            ap (λ (l : List Stmt). total (stmt_tally g) l) (stmts_row sheet (statements_onwards c x t facts) s (λ z. omega arith) (omega (arith, statements-length c x t))),
            ap (stmt_tally g) (stmt_is s a b),
            ap (λ (st : Statement). total (stmt_tally g) (stmts_at sheet st.next)) (statement-is c x t s a b),
            stmt_wholes s,
            body-worth s a b,
          )

    -- ---- queries

    -- A query's first statement is that of the tables.
    first-is : (q : ℕ) → 1 ≤ q → q ≤ c.queries → get_or (0 ∷ sheet.queries) q 0 ≡ first_at t q
    unfolding sheet_of
    first-is zero a b = absurd (omega arith)
    first-is (suc q) a b = rows_at (first_at t) c.queries q 0 b

    -- The statements of a query are those from its first.
    pub of_query : (q : ℕ) → 1 ≤ q → q ≤ c.queries → total (stmt_tally g) (stmts_of sheet q) ≡ tally_from (first_at t q)
    unfolding tally_from
    of_query q a b =
        ap (λ (l : List Stmt). total (stmt_tally g) l) (stmts_of_lem sheet q) ∙ ap tally_from (first-is q a b)
