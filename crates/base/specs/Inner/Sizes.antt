-- What follows from the limits: room for every name, every row, every definition.
use Rattle.std.specs.Prelude.{ℕ, suc, ◌+◌, ◌*◌}
use Rattle.base.specs.Limits.{most_expressions, most_statements, most_queries, printing, most_definitions, per_name, library}

-- The rows that rows name, in one numbering: queries, statements, expressions.
abbrev pub named_rows : ℕ
named_rows = most_queries + most_statements + most_expressions

-- A word for each of these rows, and one for no row.
abbrev pub per_row : ℕ
per_row = suc named_rows

-- These, and a word for each expression and for none behind them.
abbrev pub per_chain : ℕ
per_chain = per_row + suc most_expressions

-- The words of work that every call is lent.
abbrev pub least_work : ℕ
least_work = printing.work

-- A cell for each statement of a list of definitions, then one for each definition.
abbrev pub cells : ℕ
cells = most_statements + most_definitions

-- Two words, a set of statements, for each name.
abbrev pub masks : ℕ
masks = 2 * per_name

-- The words of as many definitions as the library takes.
abbrev pub definition_words : ℕ
definition_words = library.row * most_definitions
