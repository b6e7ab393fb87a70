-- A test that all rows of a sheet pass is passed by the rows of its statements' trees.
use mathlib.Core.Path.{◌≡◌, refl}
use mathlib.Core.Bool.{Bool, true, false, cond, ◌&&◌}
use mathlib.Core.List.{◌∷◌}
use Prim.Native.Nat.{ℕ, zero, suc}
use lib.Dec.{eqb}
use lib.ListN.{length, get_or}
use Rattle.base.proofs.Laws.Truth.{and_intro}
use Rattle.base.specs.Lists.{all}
use Rattle.sheet.specs.declared.Statement.{Statement}
use Rattle.sheet.specs.declared.Row.{Row}
use Rattle.base.proofs.Laws.ListLaws.{all_always}
use Rattle.sheet.specs.Sheet.{Sheet, no_row, no_statement}
use Rattle.scope.specs.Trees.{Tree, tree_at}
use Rattle.scope.proofs.Laws.TreeRows.{rows_pass, any-rows, chain-rows, tree-rows}
use Rattle.scope.specs.Statements.{Literal, some_vars, some_in, expr, not_expr, every, Stmt, literal_of, stmts_from, stmts_of}

module _ (q : Row → Bool) where
  abbrev pub literal_rows : Literal → Bool
  literal_rows (some_vars vs) = rows_pass q vs
  literal_rows (some_in key value collection) = rows_pass q key && (rows_pass q value && rows_pass q collection)
  literal_rows (expr e) = rows_pass q e
  literal_rows (not_expr e) = rows_pass q e
  literal_rows (every key value domain query) = rows_pass q key && (rows_pass q value && rows_pass q domain)

  abbrev pub stmt_rows : Stmt → Bool
  stmt_rows st = all (rows_pass q) st.with_mods && literal_rows st.literal

  -- A test that every row passes.
  pub any_stmt : ((w : Row) → q w ≡ true) → (st : Stmt) → stmt_rows st ≡ true
  any_stmt f st = and_intro _ _ (all_always (rows_pass q) (any-rows q f) st.with_mods) (go st.literal)
    where
      rows : (t : Tree) → rows_pass q t ≡ true
      rows = any-rows q f

      go : (l : Literal) → literal_rows l ≡ true
      go (some_vars vs) = rows vs
      go (some_in key value collection) = and_intro _ _ (rows key) (and_intro _ _ (rows value) (rows collection))
      go (expr e) = rows e
      go (not_expr e) = rows e
      go (every key value domain query) = and_intro _ _ (rows key) (and_intro _ _ (rows value) (rows domain))

  module _ (sheet : Sheet) (h : all q sheet.exprs ≡ true) (d : q no_row ≡ true) where
    at : (r : ℕ) → rows_pass q (tree_at sheet r) ≡ true
    at = tree-rows q sheet h d

    literal-rows : (st : Statement) → literal_rows (literal_of sheet st) ≡ true
    unfolding literal_of
    literal-rows st = go (eqb st.form 1) (eqb st.form 2) (eqb st.form 3) (eqb st.form 4)
      where
        three : (rows_pass q (tree_at sheet st.first) && (rows_pass q (tree_at sheet st.second) && rows_pass q (tree_at sheet st.third))) ≡ true
        three = and_intro _ _ (at st.first) (and_intro _ _ (at st.second) (at st.third))

        go : (a b c e : Bool) → literal_rows (cond a (some_vars (tree_at sheet st.first))
            (cond b (some_in (tree_at sheet st.first) (tree_at sheet st.second) (tree_at sheet st.third))
            (cond c (expr (tree_at sheet st.first))
            (cond e (not_expr (tree_at sheet st.first))
            (every (tree_at sheet st.first) (tree_at sheet st.second) (tree_at sheet st.third) st.query))))) ≡ true
        go true b c e = at st.first
        go false true c e = three
        go false false true e = at st.first
        go false false false true = at st.first
        go false false false false = three

    stmts_from_lem : (n r : ℕ) → all stmt_rows (stmts_from sheet n r) ≡ true
    unfolding stmts_from
    stmts_from_lem zero r = refl
    stmts_from_lem (suc n) zero = refl
    stmts_from_lem (suc n) (suc r) =
        let st = get_or sheet.statements r no_statement in
        and_intro _ _ (and_intro _ _ (chain-rows q (tree_at sheet st.with) (at st.with)) (literal-rows st)) (stmts_from_lem n st.next)

    pub stmts_rows : (query : ℕ) → all stmt_rows (stmts_of sheet query) ≡ true
    unfolding stmts_of
    stmts_rows query = stmts_from_lem (length sheet.statements) (get_or (0 ∷ sheet.queries) query 0)
