-- The variables in a pattern and in the indexes of an expression's brackets: different expressions all of them.
use Rattle.std.specs.Prelude.{cond, ℕ, length}
use Rattle.sheet.specs.Kinds.{is_ref_brack}
use Rattle.scope.specs.Trees.{Tree, row_of, second_of}
use Rattle.scope.specs.Traverse.{traverse, leaves, vars}
use Rattle.definition_room.specs.Inner.Sizes.{total}

-- How many variables a pattern has.
unfoldable pub pattern_vars : Tree → ℕ
pattern_vars t = length (vars (leaves t))

-- How many the index of a bracket has.
unfoldable pub index_count : Tree → ℕ
index_count e = cond (is_ref_brack (row_of e)) (pattern_vars (second_of e)) 0

-- How many the brackets of an expression have.
unfoldable pub bracket_vars : Tree → ℕ
bracket_vars t = total index_count (traverse t)
