-- Where the rows of the sections stand in the tables: an area for each section, one behind the other.
use Rattle.std.specs.Prelude.{ℕ, suc, ◌+◌, ◌*◌}
use Rattle.base.specs.Limits as limits

-- Where row 0 of each section would stand: names take no room.
abbrev pub builtin_start : ℕ
builtin_start = 8

abbrev pub expr_start : ℕ
expr_start = builtin_start + 4 * suc limits.most_built_ins

abbrev pub statement_start : ℕ
statement_start = expr_start + 8 * suc limits.most_expressions

abbrev pub query_start : ℕ
query_start = statement_start + 7 * suc limits.most_statements
