-- Expressions as trees: a row with the expressions that its fields name, and the rest of its chain.
-- Beside: ast.rs, `Expr`.
use Rattle.std.specs.Prelude.{cond, List, [], ◌∷◌, ◌++◌, ℕ, zero, suc, length, get_or}
use Rattle.sheet.specs.declared.Row.{Row}
use Rattle.sheet.specs.Sheet.{Sheet, no_row}
use Rattle.sheet.specs.Kinds.{is_compr}

-- A row, the trees of its first, second and third field, and the rest of its chain; `nil` where a field is 0.
pub data Tree : Type 0 where
  nil : Tree
  node : (row : Row) (first second third next : Tree) → Tree

-- A comprehension's third field names a query, and no expression.
abbrev pub third_of : Row → ℕ
third_of w = cond (is_compr w) 0 w.third

-- The tree at row r of a section, down to a depth.
unfoldable pub decode : ℕ → List Row → ℕ → Tree
decode zero rows r = nil
decode (suc depth) rows zero = nil
decode (suc depth) rows (suc r) =
    let w = get_or rows r no_row in
    node w (decode depth rows w.first) (decode depth rows w.second) (decode depth rows (third_of w)) (decode depth rows w.next)

-- The tree at row r: rows are named by smaller ones, so no way down is longer than the section.
unfoldable pub tree_at : Sheet → ℕ → Tree
tree_at sheet r = decode (length sheet.exprs) sheet.exprs r

-- ---- parts

-- The row of an expression.
abbrev pub row_of : Tree → Row
row_of nil = no_row
row_of (node w a b c n) = w

-- What its first field names.
abbrev pub first_of : Tree → Tree
first_of nil = nil
first_of (node w a b c n) = a

-- What its second field names.
abbrev pub second_of : Tree → Tree
second_of nil = nil
second_of (node w a b c n) = b

-- The expressions of a chain, each without the rest; none for a field that is 0.
unfoldable pub chain : Tree → List Tree
chain nil = []
chain (node w a b c n) = node w a b c nil ∷ chain n

-- The term of a comprehension, or its key and its value.
abbrev pub outputs_of : Tree → List Tree
outputs_of nil = []
outputs_of (node w a b c n) = chain a ++ chain b
