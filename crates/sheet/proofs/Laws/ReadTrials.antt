-- The specification's sheet, which is read, and broken ones, each with the number and the line that it is refused with.
use mathlib.Core.Path.{◌≡◌, refl}
use mathlib.Core.Bool.{Bool, true, ◌&&◌}
use mathlib.Core.List.{List, [], ◌∷◌, map}
use Prim.Native.Nat.{ℕ}
use Prim.Native.String.{String, ◌++◌}
use lib.Dec.{eqb}
use lib.ListN.{take}
use Rattle.base.specs.Limits as limits
use Rattle.base.specs.Limits.{Limits, library, printing}
use Rattle.base.specs.Lists.{all, concat_map}
use Rattle.sheet.specs.Text.{bytes, lines}
use Rattle.sheet.specs.Text as numbers
use Rattle.sheet.specs.Form.{sections, line_of, block, whole_from, form, fault_of, rows_in}
use Rattle.sheet.specs.Questions.{before, name_fault, name_row, over_line, no_query_line, count_fault, form_fault, section_rows, names_fault, row_of_name, counts_fault}
use Rattle.sheet.proofs.Laws.Trials.{FormTrial}
use Rattle.sheet.specs.Tables.{areas, areas_from, tables, put_sections, put_rows}
use Rattle.sheet.specs.Fields.{kinds, kind_of, forms, form_of}
use Rattle.sheet.specs.Naming.{target, place_of, expr_entries, statement_entries, query_entries, namers, in_chain, entry_naming, row_namings, by_queries, by_statements, by_exprs, namings}
use Rattle.sheet.specs.Nesting.{grown, enclosing, parent, level_in, level, vars_in, ends_in, all_vars, ends_odd}
use Rattle.sheet.specs.Faults.{field_fault, entries_fault, is_named_so, is_member, expr_fault, statement_fault, query_fault, path_before, builtin_fault, first_at_fault, first_line}
use Rattle.sheet.specs.Sheet.{sheet_in}
use Rattle.sheet.specs.Verdict.{Outcome, number, fault_line, empty_tables, read_tables, fields_fault, asked, verdict}

-- The outcome of a text, where there is room; opened so that it computes.
unfoldable pub judged_by : Limits → String → Outcome
unfolding bytes lines numbers.words numbers.value numbers.is_number numbers.are_numbers numbers.values sections block whole_from form fault_of rows_in before name_fault
    name_row row_of_name line_of over_line no_query_line count_fault form_fault section_rows names_fault counts_fault
    tables put_sections put_rows areas areas_from kinds forms kind_of form_of
    target place_of expr_entries statement_entries query_entries namers in_chain entry_naming row_namings by_queries by_statements by_exprs namings
    grown enclosing parent level_in level vars_in ends_in all_vars ends_odd
    field_fault entries_fault is_named_so is_member expr_fault statement_fault query_fault path_before builtin_fault
    first_at_fault first_line empty_tables read_tables sheet_in fields_fault asked verdict
judged_by lim s = verdict lim (bytes s) limits.table_entries lim.work

-- Is the text refused so?
abbrev pub read_passes_by : Limits → FormTrial → Bool
read_passes_by lim t =
    let r = judged_by lim t.text in
    eqb (number r) t.number && eqb (fault_line r) t.line

abbrev pub read_passes : FormTrial → Bool
read_passes = read_passes_by library

abbrev pub read_trial : String → ℕ → ℕ → FormTrial
read_trial s n l = record { text = s; number = n; line = l }

-- The parts of the specification's sheet.
abbrev named : String
named = "name\na\ninput\nx\ny\n\n"

abbrev no_built_ins : String
no_built_ins = "arity first second third\n\n"

abbrev first_rows : String
first_rows =
    "kind name line col first second third next\n20 0 1 1 2 3 0 0\n6 4 1 1 0 0 0 0\n6 3 1 5 0 0 0 0\n20 0 2 1 5 6 0 0\n6 3 2 1 0 0 0 0\n15 1 2 5 7 0 0 0\n"

abbrev expressions : String
expressions = first_rows ++ "6 2 2 5 0 0 0 0\n\n"

abbrev formed : String
formed = "form first second third query with next\n"

abbrev statements : String
statements = formed ++ "3 1 0 0 0 0 2\n3 4 0 0 0 0 0\n\n"

abbrev queries : String
queries = "statement\n1\n\n"

-- The sheet with built-ins, another last expression, other statements, other queries.
abbrev built_in : String → String
built_in rows = named ++ "arity first second third\n" ++ rows ++ "\n" ++ expressions ++ statements ++ queries

abbrev last_row : String → String
last_row row = named ++ no_built_ins ++ first_rows ++ row ++ "\n\n" ++ statements ++ queries

abbrev stated : String → String
stated rows = named ++ no_built_ins ++ expressions ++ formed ++ rows ++ "\n" ++ queries

abbrev queried : String → String
queried rows = named ++ no_built_ins ++ expressions ++ statements ++ "statement\n" ++ rows ++ "\n"

abbrev pub read_trials : List FormTrial
read_trials =
    read_trial (queried "1\n") 0 0
    ∷ read_trial "" 3 1
    -- names: one that starts with a digit, two in the wrong order; then no query
    ∷ read_trial ("name\n1a\n\n" ++ no_built_ins ++ expressions ++ statements ++ queries) 4 2
    ∷ read_trial ("name\nb\na\n\n" ++ no_built_ins ++ expressions ++ statements ++ queries) 4 3
    ∷ read_trial (queried "") 5 22
    -- built-ins: one that is good, then arity, no first name, a gap, no such name, a path twice
    ∷ read_trial (built_in "255 1 2 0\n") 0 0
    ∷ read_trial (built_in "256 1 2 0\n") 6 8
    ∷ read_trial (built_in "1 0 0 0\n") 6 8
    ∷ read_trial (built_in "1 1 0 2\n") 6 8
    ∷ read_trial (built_in "1 5 0 0\n") 6 8
    ∷ read_trial (built_in "1 1 0 0\n2 1 0 0\n") 6 9
    -- expressions: no such kind, no such name, no name, a field that the kind has not, a `next` outside of chains
    ∷ read_trial (last_row "23 2 2 5 0 0 0 0") 6 16
    ∷ read_trial (last_row "0 2 2 5 0 0 0 0") 6 16
    ∷ read_trial (last_row "6 5 2 5 0 0 0 0") 6 16
    ∷ read_trial (last_row "6 0 2 5 0 0 0 0") 6 16
    ∷ read_trial (last_row "6 2 2 5 1 0 0 0") 6 16
    ∷ read_trial (last_row "6 2 2 5 0 0 0 3") 6 16
    -- statements: an expression left unnamed, one named twice, a form that names nothing
    ∷ read_trial (stated "3 1 0 0 0 0 0\n") 6 13
    ∷ read_trial (stated "3 1 0 0 0 0 2\n3 1 0 0 0 0 0\n") 6 10
    ∷ read_trial (stated "6 1 0 0 0 0 2\n3 4 0 0 0 0 0\n") 6 10
    -- queries: the second statement twice and the first not, no such statement, a query that nothing names
    ∷ read_trial (queried "2\n") 6 19
    ∷ read_trial (queried "3\n") 6 19
    ∷ read_trial (queried "1\n0\n") 6 24
    ∷ []

pub read_trials-pass : all read_passes read_trials ≡ true
unfolding judged_by
read_trials-pass = refl

-- ---- the limits of the library and of the printing program

-- Question 1 comes before all others.
pub too_little_room : (number (verdict library [] 8191 24576) ≡ 1) × (number (verdict library [] 8192 24575) ≡ 1)
    × (number (verdict printing [] 8191 8192) ≡ 1) × (number (verdict printing [] 8192 8191) ≡ 1)
unfolding verdict
too_little_room = (refl, refl, refl, refl)

-- Rows as lines, and the empty line behind them.
abbrev pub rows : List String → String
rows [] = "\n"
rows (r ∷ rs) = r ++ "\n" ++ rows rs

-- 512 names of three letters, ascending.
abbrev letters : List String
letters =
    "a" ∷ "b" ∷ "c" ∷ "d" ∷ "e" ∷ "f" ∷ "g" ∷ "h" ∷ "i" ∷ "j" ∷ "k" ∷ "l" ∷ "m" ∷ "n" ∷ "o" ∷ "p" ∷ []

abbrev each : List String → List String → List String
each xs ys = concat_map (λ x. map (λ y. x ++ y) ys) xs

abbrev many_names : List String
many_names = each ("a" ∷ "b" ∷ []) (each letters letters)

-- The sheet with the first n of them.
abbrev named_by : ℕ → String
named_by n = "name\n" ++ rows (take n many_names) ++ no_built_ins ++ expressions ++ statements ++ queries

-- The last name that is let in, and one more.
pub library-names : all (read_passes_by library) (read_trial (named_by 511) 0 0 ∷ read_trial (named_by 512) 5 513 ∷ []) ≡ true
unfolding judged_by
library-names = refl

pub printing-names : all (read_passes_by printing) (read_trial (named_by 127) 0 0 ∷ read_trial (named_by 128) 5 129 ∷ []) ≡ true
unfolding judged_by
printing-names = refl
