-- A sheet as lists of rows, read off its lines. Rows count from 1, and 0 means none. Names are their rows: names ascend strictly, so two
-- are the same text exactly if they are the same row. Name 0 is the empty text.
-- Beside: document 01, Sheet.
use Rattle.std.specs.Prelude.{ℕ, Bool, ◌||◌, List, [], ◌∷◌, map, eqb, length, get_or}
use Rattle.sheet.specs.declared.Builtin.{Builtin}
use Rattle.sheet.specs.declared.Row.{Row}
use Rattle.sheet.specs.declared.Statement.{Statement}
use Rattle.base.specs.Limits as limits
use Rattle.sheet.specs.Text.{bytes, values}
use Rattle.sheet.specs.Form.{built_ins_at, exprs_at, statements_at, queries_at}
use Rattle.sheet.specs.Questions.{section_rows, sheet_names, row_of_name}
use Rattle.sheet.specs.declared.Counts.{Counts}
use Rattle.sheet.specs.declared.Special.{Special}

-- Row r of each section; a query is its first statement, or 0.
pub record Rows : Type 0 where
  pub builtin : ℕ → Builtin
  pub expr : ℕ → Row
  pub statement : ℕ → Statement
  pub query : ℕ → ℕ

-- How many names there are, and the rows of `_`, `input` and `data`, or 0. A query is its first statement, or 0; row 1 is the outer one.
pub record Sheet : Type 0 where
  pub names : ℕ
  pub special : Special
  pub builtins : List Builtin
  pub exprs : List Row
  pub statements : List Statement
  pub queries : List ℕ

-- Names lie below this, the empty name with them.
abbrev pub name_bound : ℕ
name_bound = limits.per_name

-- ---- the sheet that bytes give, where they pass questions 2 to 5

-- A row is the values of its line, named by the section's heading.
abbrev pub builtin_of : List ℕ → Builtin
builtin_of l = let v = values l in record { arity = get_or v 0 0; first = get_or v 1 0; second = get_or v 2 0; third = get_or v 3 0 }

abbrev pub expr_of : List ℕ → Row
expr_of l =
    let v = values l in
    record {
      kind = get_or v 0 0;
      name = get_or v 1 0;
      line = get_or v 2 0;
      col = get_or v 3 0;
      first = get_or v 4 0;
      second = get_or v 5 0;
      third = get_or v 6 0;
      next = get_or v 7 0;
    }

abbrev pub statement_of : List ℕ → Statement
statement_of l =
    let v = values l in
    record {
      form = get_or v 0 0;
      first = get_or v 1 0;
      second = get_or v 2 0;
      third = get_or v 3 0;
      query = get_or v 4 0;
      with = get_or v 5 0;
      next = get_or v 6 0;
    }

abbrev pub query_of : List ℕ → ℕ
query_of l = get_or (values l) 0 0

module _ (s : List ℕ) where
  -- The rows of the section at a place, as lines.
  abbrev lines_of : ℕ → List (List ℕ)
  lines_of k = get_or (section_rows s) k []

  unfoldable pub sheet_in : Sheet
  sheet_in = record {
    names = length (sheet_names s);
    special = record { blank = row_of_name s (bytes "_"); input = row_of_name s (bytes "input"); «data» = row_of_name s (bytes "data") };
    builtins = map builtin_of (lines_of built_ins_at);
    exprs = map expr_of (lines_of exprs_at);
    statements = map statement_of (lines_of statements_at);
    queries = map query_of (lines_of queries_at);
  }

-- ---- its rows by their numbers

-- Stand where a sheet has no such row.
abbrev pub no_builtin : Builtin
no_builtin = record { arity = 0; first = 0; second = 0; third = 0 }

abbrev pub no_row : Row
no_row = record { kind = 0; name = 0; line = 0; col = 0; first = 0; second = 0; third = 0; next = 0 }

abbrev pub no_statement : Statement
no_statement = record { form = 0; first = 0; second = 0; third = 0; query = 0; with = 0; next = 0 }

-- Row r of a section.
abbrev pub row : {A : Type 0} → A → List A → ℕ → A
row none rows r = get_or (none ∷ rows) r none

module _ (sheet : Sheet) where
  abbrev pub counts_of : Counts
  counts_of = record {
    names = sheet.names;
    builtins = length sheet.builtins;
    exprs = length sheet.exprs;
    statements = length sheet.statements;
    queries = length sheet.queries;
  }

  abbrev pub rows_of : Rows
  rows_of = record {
    builtin = row no_builtin sheet.builtins;
    expr = row no_row sheet.exprs;
    statement = row no_statement sheet.statements;
    query = row 0 sheet.queries;
  }

-- ---- names that the language gives a meaning. A variable's name is never 0, so the row 0 of one that is absent is no variable's.

-- Is it `input`?
unfoldable pub is_input : Sheet → ℕ → Bool
is_input sheet x = eqb x sheet.special.input

-- Is it `_`, `input` or `data`?
unfoldable pub is_special : Sheet → ℕ → Bool
is_special sheet x = eqb x sheet.special.blank || (is_input sheet x || eqb x sheet.special.«data»)
