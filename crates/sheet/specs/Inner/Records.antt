-- The rows of a sheet as they stand in the tables, and the bounds of their number. Rows count from 1.
use Rattle.std.specs.Prelude.{List, ℕ, ◌+◌, ◌*◌, ◌≤◌, get_or}
use Rattle.base.specs.Limits.{library, most_built_ins, most_expressions, most_statements, most_queries}
use Rattle.sheet.specs.Inner.Layout.{builtin_start, expr_start, statement_start, query_start}
use Rattle.sheet.specs.declared.Counts.{Counts}
use Rattle.sheet.specs.declared.Builtin.{Builtin}
use Rattle.sheet.specs.declared.Row.{Row}
use Rattle.sheet.specs.declared.Statement.{Statement}

-- ---- the bounds

-- No call takes more names than the library.
abbrev pub most_names : ℕ
most_names = library.names

-- The counts are in bounds.
pub record Within (c : Counts) : Type 0 where
  pub few-names : c.names ≤ most_names
  pub few-builtins : c.builtins ≤ most_built_ins
  pub few-exprs : c.exprs ≤ most_expressions
  pub few-statements : c.statements ≤ most_statements
  pub few-queries : c.queries ≤ most_queries
  pub some-query : 1 ≤ c.queries

-- ---- the rows: a section's row r stands at its area and r times its width

module _ (t : List ℕ) where
  abbrev pub builtin_at : ℕ → Builtin
  builtin_at r =
      let at = builtin_start + 4 * r in
      record { arity = get_or t at 0; first = get_or t (at + 1) 0; second = get_or t (at + 2) 0; third = get_or t (at + 3) 0 }

  abbrev pub expr_at : ℕ → Row
  expr_at r =
      let at = expr_start + 8 * r in
      record {
        kind = get_or t at 0;
        name = get_or t (at + 1) 0;
        line = get_or t (at + 2) 0;
        col = get_or t (at + 3) 0;
        first = get_or t (at + 4) 0;
        second = get_or t (at + 5) 0;
        third = get_or t (at + 6) 0;
        next = get_or t (at + 7) 0;
      }

  abbrev pub statement_row_at : ℕ → Statement
  statement_row_at r =
      let at = statement_start + 7 * r in
      record {
        form = get_or t at 0;
        first = get_or t (at + 1) 0;
        second = get_or t (at + 2) 0;
        third = get_or t (at + 3) 0;
        query = get_or t (at + 4) 0;
        with = get_or t (at + 5) 0;
        next = get_or t (at + 6) 0;
      }

  -- The first statement of query r, or 0.
  abbrev pub first_at : ℕ → ℕ
  first_at r = get_or t (query_start + r) 0
