-- The definitions of the call, opened so that they compute: whoever unfolds one of these unfolds all that it names.
use mathlib.Core.List.{List}
use Prim.Native.Nat.{ℕ}
use Rattle.base.specs.Limits.{Limits}
use Rattle.base.specs.Lists.{range}
use Rattle.order.specs.Definitions.{resolves}
use Rattle.order.specs.Turns.{round, placements}
use Rattle.sheet.specs.Text.{bytes, lines}
use Rattle.sheet.specs.Text as numbers
use Rattle.sheet.specs.Form.{sections, line_of, block, whole_from, form, fault_of, rows_in}
use Rattle.sheet.specs.Questions.{before, name_fault, name_row, over_line, no_query_line, count_fault, form_fault, section_rows, names_fault, counts_fault, row_of_name}
use Rattle.sheet.specs.Fields.{kinds, kind_of, forms, form_of}
use Rattle.sheet.specs.Naming.{target, place_of, expr_entries, statement_entries, query_entries, namers, in_chain, entry_naming, row_namings, by_queries, by_statements, by_exprs, namings}
use Rattle.sheet.specs.Nesting.{grown, enclosing, parent, level_in, level, vars_in, ends_in, all_vars, ends_odd}
use Rattle.sheet.specs.Faults.{field_fault, entries_fault, is_named_so, is_member, expr_fault, statement_fault, query_fault, path_before, builtin_fault, first_at_fault, first_line}
use Rattle.sheet.specs.Verdict as questions
use Rattle.sheet.specs.Sheet.{Sheet, sheet_in, is_input, is_special}
use Rattle.scope.specs.Trees.{decode, tree_at, chain}
use Rattle.scope.specs.Traverse.{traverse, leaves}
use Rattle.scope.specs.Paths.{get_path_string, get_extra_arg}
use Rattle.scope.specs.Statements.{literal_of, stmts_from, stmts_of}
use Rattle.scope.specs.Scopes.{empty, contains, insert, remove, elements, add_local, add_unscoped, add_input, use_input, remove_all, remove_shadowed, owns, var_exists}
use Rattle.scope.specs.Gather.{assign_var, gather_assigned_vars, input_var, gather_input_vars, loop_var, gather_loop_vars, gather_read, gather_vars, gather_expr, gather_literal, gather_stmt, gather_local_vars}
use Rattle.definition.specs.Uses.{define, assigned_vars, index_vars, reads_input, is_undefined, undefined_var, is_use, used_at, used_vars, variables_used, index_definitions_at, index_definitions, add_first_use}
use Rattle.definition.specs.States.{Run, set_scope, add_first_uses, add_definitions, set_run, fail}
use Rattle.definition.specs.Using.{gather_used_vars, check_first_use, check_assigned, record_one, record_each, at_least_one}
use Rattle.definition.specs.Comprs.{propagate, comprs_use, use_compr, all_used, process_compr, process_comprs, use_expr}
use Rattle.definition.specs.Exprs.{pairings, assign_one_way, assign_pairing, process_assign_expr, process_plain_expr, process_expr, process_extra_arg, process_call}
use Rattle.definition.specs.SomeIn.{some_vars_in, non_vars, process_non_var, process_some_in}
use Rattle.definition.specs.Queries.{mods_of, process_every, process_literal, process_stmt, process_stmts, output_scope, scheduled, output_compr, analyze_output_expr, analyze_query}
use Rattle.definition.specs.RustWay as rust
use Rattle.definition.specs.RustWay.{rust_way, analyze, analyze_query_snippet, schedule_in}
use Rattle.definition.proofs.Laws.RustWay.{recorded}
use Rattle.answer.specs.Text.{all_rows, digits, section, answer_text, refusal_text}
use Rattle.answer.specs.Call.{Result, analysed, result_of}

-- The sheet in bytes.
unfoldable pub sheet_read : List ℕ → Sheet
unfolding lines numbers.words numbers.value numbers.values numbers.is_number numbers.are_numbers sections block whole_from form fault_of rows_in name_row
    section_rows row_of_name bytes sheet_in
sheet_read s = sheet_in s

-- The analysis of a sheet, its text, and what it recorded.
unfoldable pub analysed_sheet : Sheet → Run
unfolding range resolves round placements bytes is_input is_special decode tree_at chain traverse leaves get_path_string get_extra_arg
    literal_of stmts_from stmts_of
    empty contains insert remove elements add_local add_unscoped add_input use_input remove_all remove_shadowed owns var_exists
    assign_var gather_assigned_vars input_var gather_input_vars loop_var gather_loop_vars gather_read gather_vars
    gather_expr gather_literal gather_stmt gather_local_vars
    define assigned_vars index_vars reads_input is_undefined undefined_var is_use used_at used_vars variables_used index_definitions_at index_definitions
    add_first_use set_scope add_first_uses add_definitions set_run fail
    gather_used_vars check_first_use check_assigned record_one record_each at_least_one
    propagate comprs_use use_compr all_used process_compr process_comprs use_expr
    pairings assign_one_way assign_pairing process_assign_expr process_plain_expr process_expr process_extra_arg process_call
    some_vars_in non_vars process_non_var process_some_in mods_of process_every process_literal process_stmt process_stmts
    output_scope scheduled output_compr analyze_output_expr analyze_query
    rust.take rust_way analyze analyze_query_snippet schedule_in recorded all_rows digits section answer_text refusal_text analysed
analysed_sheet s = analyze_query_snippet s

-- The whole call.
unfoldable pub computed : Limits → List ℕ → ℕ → ℕ → ℕ → Result
unfolding sheet_read analysed_sheet before name_fault line_of over_line no_query_line count_fault form_fault names_fault counts_fault
    kinds forms kind_of form_of target place_of expr_entries statement_entries query_entries
    namers in_chain entry_naming row_namings by_queries by_statements by_exprs namings grown enclosing parent level_in level
    vars_in ends_in all_vars ends_odd field_fault entries_fault is_named_so is_member expr_fault statement_fault query_fault path_before
    builtin_fault first_at_fault first_line questions.fields_fault questions.asked questions.verdict result_of
computed lim s room work text = result_of lim s room work text
