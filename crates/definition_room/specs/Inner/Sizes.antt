-- How large an expression and a statement are, in rows: the measure of what they record.
use Rattle.std.specs.Prelude.{List, [], ◌∷◌, ℕ, suc, ◌+◌}
use Rattle.scope.specs.Trees.{Tree, nil, node}
use Rattle.scope.specs.Statements.{Literal, some_vars, some_in, expr, not_expr, every, Stmt}

-- The sum of what the elements cost.
abbrev pub total : {A : Type 0} → (A → ℕ) → List A → ℕ
total cost [] = 0
total cost (x ∷ l) = cost x + total cost l

-- The expressions of a tree, the rest of the chain with it.
unfoldable pub size : Tree → ℕ
size nil = 0
size (node w a b c n) = suc (size a + (size b + (size c + size n)))

-- The expressions of a literal; an `every` has its query besides.
abbrev pub literal_size : Literal → ℕ
literal_size (some_vars vs) = size vs
literal_size (some_in key value collection) = size key + (size value + size collection)
literal_size (expr e) = size e
literal_size (not_expr e) = size e
literal_size (every key value domain query) = size key + (size value + size domain)

-- The statement and its expressions.
unfoldable pub weight : Stmt → ℕ
weight st = suc (literal_size st.literal + total size st.with_mods)
