-- Statements as literals over expressions, and the statements of a query.
-- Beside: ast.rs, `LiteralStmt` and `Literal`.
use Rattle.std.specs.Prelude.{cond, List, [], ◌∷◌, ℕ, zero, suc, eqb, length, get_or}
use Rattle.sheet.specs.declared.Statement.{Statement}
use Rattle.sheet.specs.Sheet.{Sheet, no_statement}
use Rattle.scope.specs.Trees.{Tree, tree_at, chain}

-- The five forms of a literal, by the names that the original has for their parts.
pub data Literal : Type 0 where
  some_vars : (vars : Tree) → Literal
  some_in : (key value collection : Tree) → Literal
  expr not_expr : (e : Tree) → Literal
  every : (key value domain : Tree) (query : ℕ) → Literal

-- A literal, and the `as` expressions of its modifiers.
pub record Stmt : Type 0 where
  pub literal : Literal
  pub with_mods : List Tree

module _ (sheet : Sheet) where
  -- By form: 1 SomeVars, 2 SomeIn, 3 Expr, 4 NotExpr, 5 Every.
  unfoldable pub literal_of : Statement → Literal
  literal_of st =
      cond (eqb st.form 1) (some_vars (tree_at sheet st.first))
      (cond (eqb st.form 2) (some_in (tree_at sheet st.first) (tree_at sheet st.second) (tree_at sheet st.third))
      (cond (eqb st.form 3) (expr (tree_at sheet st.first))
      (cond (eqb st.form 4) (not_expr (tree_at sheet st.first))
      (every (tree_at sheet st.first) (tree_at sheet st.second) (tree_at sheet st.third) st.query))))

  -- The statements from row r on, at most so many.
  unfoldable pub stmts_from : ℕ → ℕ → List Stmt
  stmts_from zero r = []
  stmts_from (suc most) zero = []
  stmts_from (suc most) (suc r) =
      let st = get_or sheet.statements r no_statement in
      record { literal = literal_of st; with_mods = chain (tree_at sheet st.with) } ∷ stmts_from most st.next

  -- The statements of a query, in order.
  unfoldable pub stmts_of : ℕ → List Stmt
  stmts_of q = stmts_from (length sheet.statements) (get_or (0 ∷ sheet.queries) q 0)
