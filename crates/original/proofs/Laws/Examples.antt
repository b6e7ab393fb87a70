-- The repeats do occur: a bracket with two names in its indices, and an array assignment with a comprehension in its modifier.
use mathlib.Core.Path.{◌≡◌, refl}
use mathlib.Core.Bool.{true, false}
use mathlib.Core.List.{List, [], ◌∷◌, map}
use Prim.Native.Nat.{ℕ}
use Rattle.base.specs.Lists.{range}
use Rattle.sheet.specs.declared.Row.{Row}
use Rattle.sheet.specs.Sheet.{Sheet, is_input, is_special}
use Rattle.scope.specs.Trees.{Tree, nil, node, decode, tree_at, chain}
use Rattle.scope.specs.Traverse.{traverse, leaves, vars}
use Rattle.scope.specs.Paths.{get_path_string, get_extra_arg}
use Rattle.scope.specs.Statements.{literal_of, stmts_from, stmts_of}
use Rattle.scope.specs.Scopes.{empty, contains, insert, remove, elements, Scope, add_local, add_unscoped, add_input, use_input, remove_all, remove_shadowed, owns, var_exists}
use Rattle.scope.specs.Gather.{assign_var, gather_assigned_vars, input_var, gather_input_vars, loop_var, gather_loop_vars, gather_read, gather_vars, gather_expr, gather_literal, gather_stmt, gather_local_vars}
use Rattle.definition.specs.Uses.{define, name_of, assigned_vars, index_vars, reads_input, is_undefined, undefined_var, is_use, used_at, used_vars, variables_used, index_definitions_at, index_definitions, add_first_use}
use Rattle.definition.specs.States.{QuerySchedule, set_scope, add_first_uses, add_definitions, set_run, fail}
use Rattle.definition.specs.Using.{gather_used_vars, check_first_use, check_assigned, record_one, record_each, at_least_one}
use Rattle.definition.specs.Comprs.{propagate, comprs_use, use_compr, all_used, process_compr, process_comprs, use_expr}
use Rattle.definition.specs.Exprs.{pairings, assign_one_way, assign_pairing, process_assign_expr, process_plain_expr, process_expr, process_extra_arg, process_call}
use Rattle.definition.specs.Queries.{mods_of, process_literal, process_stmt, process_stmts, output_scope, scheduled, output_compr, analyze_output_expr, analyze_query}
use Rattle.definition.specs.RustWay.{take, rust_way, analyze, analyze_query_snippet}
use Rattle.definition_once.specs.Inner.OnceWay.{analyze_compr, analyze_once, analyze_query_snippet_once}
use Rattle.original.specs.Inner.Events.{vars_seen}
use Rattle.original.specs.Inner.RustWalk.{rust_walk}
use Rattle.original.specs.Inner.Places.{expr_comprs, literal_comprs, stmt_comprs, queries_named, family}
use Rattle.original.specs.Inner.QueryRepeats.{queries_once}

-- An expression on line 1: its kind, its name, its fields and the next of its chain.
abbrev expression : ℕ → ℕ → ℕ → ℕ → ℕ → ℕ → Row
expression kind name first second third next =
    record { kind = kind; name = name; line = 1; col = 0; first = first; second = second; third = third; next = next }

-- `[a, b] = [1, 2] with input as [x | x := 3]`, where a, b and x are the names 1, 2 and 3, and the comprehension's query is 2.
abbrev sheet : Sheet
sheet = record {
  names = 0;
  special = record { blank = 0; input = 0; «data» = 0 };
  builtins = [];
  exprs =
      expression 20 0 2 5 0 0
      ∷ expression 7 0 3 0 0 0
      ∷ expression 6 1 0 0 0 4
      ∷ expression 6 2 0 0 0 0
      ∷ expression 7 0 6 0 0 0
      ∷ expression 3 0 0 0 0 7
      ∷ expression 3 0 0 0 0 0
      ∷ expression 10 0 9 0 2 0
      ∷ expression 6 3 0 0 0 0
      ∷ expression 21 0 11 12 0 0
      ∷ expression 6 3 0 0 0 0
      ∷ expression 3 0 0 0 0 0
      ∷ [];
  statements =
      record { form = 3; first = 1; second = 0; third = 0; query = 0; with = 8; next = 0 }
      ∷ record { form = 3; first = 10; second = 0; third = 0; query = 0; with = 0; next = 0 }
      ∷ [];
  queries = 1 ∷ 2 ∷ [];
}

-- The query of a schedule.
abbrev query_of : QuerySchedule → ℕ
query_of a = a.query

-- What the Rust's analysis computes with.
unfoldable rust_queries : Sheet → List ℕ
unfolding analyze_query_snippet analyze rust_way take propagate comprs_use use_compr all_used process_compr process_comprs use_expr assign_one_way assign_pairing process_assign_expr process_plain_expr process_expr process_extra_arg process_call process_literal process_stmt process_stmts output_compr analyze_output_expr analyze_query range is_input is_special decode tree_at chain traverse leaves get_path_string get_extra_arg literal_of stmts_from stmts_of empty contains insert remove elements add_local add_unscoped add_input use_input remove_all remove_shadowed owns var_exists assign_var gather_assigned_vars input_var gather_input_vars loop_var gather_loop_vars gather_read gather_vars gather_expr gather_literal gather_stmt gather_local_vars define assigned_vars index_vars reads_input is_undefined undefined_var is_use used_at used_vars variables_used index_definitions_at index_definitions add_first_use set_scope add_first_uses add_definitions set_run fail gather_used_vars check_first_use check_assigned record_one record_each at_least_one pairings mods_of output_scope scheduled
rust_queries s = map query_of (analyze_query_snippet s).schedules

-- And the code's way.
unfoldable queries : Sheet → List ℕ
unfolding analyze_query_snippet_once analyze_once analyze_compr propagate comprs_use use_compr all_used process_compr process_comprs use_expr assign_one_way assign_pairing process_assign_expr process_plain_expr process_expr process_extra_arg process_call process_literal process_stmt process_stmts output_compr analyze_output_expr analyze_query range is_input is_special decode tree_at chain traverse leaves get_path_string get_extra_arg literal_of stmts_from stmts_of empty contains insert remove elements add_local add_unscoped add_input use_input remove_all remove_shadowed owns var_exists assign_var gather_assigned_vars input_var gather_input_vars loop_var gather_loop_vars gather_read gather_vars gather_expr gather_literal gather_stmt gather_local_vars define assigned_vars index_vars reads_input is_undefined undefined_var is_use used_at used_vars variables_used index_definitions_at index_definitions add_first_use set_scope add_first_uses add_definitions set_run fail gather_used_vars check_first_use check_assigned record_one record_each at_least_one pairings mods_of output_scope scheduled
queries s = map query_of (analyze_query_snippet_once s).schedules

-- The Rust analyses the comprehension's query four times, once for each pair and direction.
analyzed_four_times : rust_queries sheet ≡ 1 ∷ 2 ∷ 2 ∷ 2 ∷ 2 ∷ []
unfolding rust_queries
analyzed_four_times = refl

-- The code's way does so once.
analyzed_once : queries sheet ≡ 1 ∷ 2 ∷ []
unfolding queries
analyzed_once = refl

-- Each query of the sheet stands at one place.
stands_once : queries_once sheet ≡ true
unfolding queries_once family queries_named stmt_comprs literal_comprs expr_comprs pairings stmts_of stmts_from literal_of tree_at decode chain traverse leaves get_extra_arg get_path_string
stands_once = refl

-- ---- a bracket

-- `a[b][x]`.
abbrev bracket : Tree
bracket =
    node (expression 16 0 0 0 0 0)
    (node (expression 16 0 0 0 0 0) (node (expression 6 1 0 0 0 0) nil nil nil nil) (node (expression 6 2 0 0 0 0) nil nil nil nil) nil nil)
    (node (expression 6 3 0 0 0 0) nil nil nil nil) nil nil

-- A scope with the three names.
abbrev scope : Scope
scope = record { locals = []; unscoped = λ x. true; inputs = empty; uses_input = false }

-- The Rust walks `a[b]` twice, and `a` in each of these twice; the definitions walk each once.
walked_again : map name_of (vars_seen (rust_walk sheet scope [] 0 bracket)) ≡ 1 ∷ 1 ∷ 2 ∷ 1 ∷ 1 ∷ 2 ∷ 3 ∷ []
unfolding rust_walk index_vars assigned_vars leaves owns contains
walked_again = refl

walked_once : map name_of (vars (traverse bracket)) ≡ 1 ∷ 2 ∷ 3 ∷ []
unfolding traverse
walked_once = refl
