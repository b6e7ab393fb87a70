-- What plain expressions, assignments and extra arguments add.
use Rattle.std.specs.Prelude.{ℕ, ◌+◌, max}
use Rattle.scope.specs.Trees.{Tree}
use Rattle.definition.specs.Exprs.{Pairing, pair, mismatch}
use Rattle.definition_room.specs.Inner.Leaves.{pattern_vars, bracket_vars}

-- ---- how many

-- One side of a pair: the names that it assigns, or one definition, and what its brackets define.
abbrev pub side_cost : Tree → ℕ
side_cost t = max 1 (pattern_vars t) + bracket_vars t

-- Both sides; a mismatch adds nothing.
abbrev pub pair_cost : Pairing → ℕ
pair_cost (pair lhs rhs) = side_cost lhs + side_cost rhs
pair_cost (mismatch v) = 0
