-- The most that a call takes of each thing, and the least that it is lent. The definitions say these numbers here alone.
-- Beside: document 01, Sheet (the line `At most`) and Questions; docs/landings/U6.md.
use Rattle.std.specs.Prelude.{ℕ, suc}

-- ---- what the library and the printing program differ in

pub record Limits : Type 0 where
  -- The words of a set of names.
  pub words : ℕ
  -- The names of a sheet, and the largest name of a definition: a set has a bit for each, and one for the empty name.
  pub names : ℕ
  -- The words of a definition's row: a statement, a name, and the set of used names.
  pub row : ℕ
  -- The words of work.
  pub work : ℕ

-- Every exported call.
abbrev pub library : Limits
library = record { words = 8; names = 511; row = 10; work = 24576 }

abbrev pub printing : Limits
printing = record { words = 2; names = 127; row = 4; work = 8192 }

-- ---- what they have in common

-- The bytes of a sheet.
abbrev pub sheet_bytes : ℕ
sheet_bytes = 32768

-- The bytes of a name.
abbrev pub name_bytes : ℕ
name_bytes = 32

-- A value.
abbrev pub largest_value : ℕ
largest_value = 65535

-- The rows of each section but the names.
abbrev pub most_built_ins : ℕ
most_built_ins = 64

abbrev pub most_expressions : ℕ
most_expressions = 512

abbrev pub most_statements : ℕ
most_statements = 128

abbrev pub most_queries : ℕ
most_queries = 32

-- The definitions of a list handed to the scheduler; its statements are as many as a sheet's.
abbrev pub most_definitions : ℕ
most_definitions = 640

-- The parameters of a built-in.
abbrev pub most_arity : ℕ
most_arity = 255

-- The level of a query. Row 1 is level 1.
abbrev pub nesting : ℕ
nesting = 8

-- And the least: the entries of the tables.
abbrev pub table_entries : ℕ
table_entries = 8192

-- ---- computed from these

-- An element for each name that a sheet can have, and one for the empty name.
abbrev pub per_name : ℕ
per_name = suc library.names
