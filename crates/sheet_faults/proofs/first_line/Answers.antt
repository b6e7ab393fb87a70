-- The sections one after the other; each search tells whether the next is asked.
use borrow.Author.Rules.{rules}
use mathlib.Core.Path.{refl}
use native.Mathlib.Omega.{arith}
use Rattle.sheet.specs.Form.{built_ins_at, exprs_at, statements_at, queries_at, line_of}
use Rattle.sheet.specs.Faults.{builtin_fault, expr_fault, statement_fault, query_fault, first_line}
use Rattle.sheet.specs.Inner.Rows.{in_tables}
use Rattle.sheet_faults.proofs.Laws.Firsts.{line-here, line-later}
use Rattle.sheet_faults.proofs.first_line.Goals as goal

pub overflow_add-result : goal.overflow_add-result
overflow_add-result c =
    let a = c.args in
    let w = c.requires.2 in
    let found = c.in-Some.ensures (builtin_fault a.counts (in_tables a.tables.now)) (λ row answer low high p. search rules) in
    omega (arith, w.few-names, w.few-builtins, found.1.1)

pub returns-in-Some : goal.returns-in-Some
unfolding first_line line_of
returns-in-Some c =
    let a = c.args in
    let found = c.in-Some.ensures (builtin_fault a.counts (in_tables a.tables.now)) (λ row answer low high p. search rules) in
    (line-here a.counts built_ins_at _ _ c.in-Some.row _ found.0 (λ z. omega (arith, found.1.0)) (omega arith), omega (arith, found.1.0))

pub overflow_add-result-in-Some-first_fault : goal.overflow_add-result-in-Some-first_fault
overflow_add-result-in-Some-first_fault c =
    let a = c.args in
    let w = c.requires.2 in
    let found = c.in-Some-first_fault.ensures (expr_fault a.counts (in_tables a.tables.now)) (λ row answer low high p. search rules) in
    omega (arith, w.few-names, w.few-builtins, w.few-exprs, found.1.1)

pub returns-in-Some-first_fault : goal.returns-in-Some-first_fault
unfolding first_line line_of
returns-in-Some-first_fault c =
    let a = c.args in
    let no-builtin = c.in_default.ensures (builtin_fault a.counts (in_tables a.tables.now)) (λ row answer low high p. search rules) in
    let found = c.in-Some-first_fault.ensures (expr_fault a.counts (in_tables a.tables.now)) (λ row answer low high p. search rules) in (
      line-later a.counts built_ins_at _ _ 0 _ no-builtin.0 refl
          (line-here a.counts exprs_at _ _ c.in-Some-first_fault.row _ found.0 (λ z. omega (arith, found.1.0)) (omega arith)),
      omega (arith, found.1.0),
    )

pub overflow_add-result-in-Some-first_fault-2 : goal.overflow_add-result-in-Some-first_fault-2
overflow_add-result-in-Some-first_fault-2 c =
    let a = c.args in
    let w = c.requires.2 in
    let found = c.in-Some-first_fault-2.ensures (statement_fault a.counts (in_tables a.tables.now)) (λ row answer low high p. search rules) in
    omega (arith, w.few-names, w.few-builtins, w.few-exprs, w.few-statements, found.1.1)

pub returns-in-Some-first_fault-2 : goal.returns-in-Some-first_fault-2
unfolding first_line line_of
returns-in-Some-first_fault-2 c =
    let a = c.args in
    let no-builtin = c.in_default.ensures (builtin_fault a.counts (in_tables a.tables.now)) (λ row answer low high p. search rules) in
    let no-expr = c.in_default-first_fault.ensures (expr_fault a.counts (in_tables a.tables.now)) (λ row answer low high p. search rules) in
    let found = c.in-Some-first_fault-2.ensures (statement_fault a.counts (in_tables a.tables.now)) (λ row answer low high p. search rules) in (
      line-later a.counts built_ins_at _ _ 0 _ no-builtin.0 refl
          (line-later a.counts exprs_at _ _ 0 _ no-expr.0 refl
          (line-here a.counts statements_at _ _ c.in-Some-first_fault-2.row _ found.0 (λ z. omega (arith, found.1.0)) (omega arith))),
      omega (arith, found.1.0),
    )

pub overflow_add-result-in-Some-first_fault-3 : goal.overflow_add-result-in-Some-first_fault-3
overflow_add-result-in-Some-first_fault-3 c =
    let a = c.args in
    let w = c.requires.2 in
    let found = c.in-Some-first_fault-3.ensures (query_fault a.counts (in_tables a.tables.now)) (λ row answer low high p. search rules) in
    omega (arith, w.few-names, w.few-builtins, w.few-exprs, w.few-statements, w.few-queries, found.1.1)

pub returns-in-Some-first_fault-3 : goal.returns-in-Some-first_fault-3
unfolding first_line line_of
returns-in-Some-first_fault-3 c =
    let a = c.args in
    let no-builtin = c.in_default.ensures (builtin_fault a.counts (in_tables a.tables.now)) (λ row answer low high p. search rules) in
    let no-expr = c.in_default-first_fault.ensures (expr_fault a.counts (in_tables a.tables.now)) (λ row answer low high p. search rules) in
    let no-statement = c.in_default-first_fault-2.ensures (statement_fault a.counts (in_tables a.tables.now)) (λ row answer low high p. search rules) in
    let found = c.in-Some-first_fault-3.ensures (query_fault a.counts (in_tables a.tables.now)) (λ row answer low high p. search rules) in (
      line-later a.counts built_ins_at _ _ 0 _ no-builtin.0 refl
          (line-later a.counts exprs_at _ _ 0 _ no-expr.0 refl
          (line-later a.counts statements_at _ _ 0 _ no-statement.0 refl
          (line-here a.counts queries_at _ _ c.in-Some-first_fault-3.row _ found.0 (λ z. omega (arith, found.1.0)) (omega arith)))),
      omega (arith, found.1.0),
    )

pub returns : goal.returns
unfolding first_line line_of
returns c =
    let a = c.args in
    let no-builtin = c.in_default.ensures (builtin_fault a.counts (in_tables a.tables.now)) (λ row answer low high p. search rules) in
    let no-expr = c.in_default-first_fault.ensures (expr_fault a.counts (in_tables a.tables.now)) (λ row answer low high p. search rules) in
    let no-statement = c.in_default-first_fault-2.ensures (statement_fault a.counts (in_tables a.tables.now)) (λ row answer low high p. search rules) in
    let no-query = c.in_default-first_fault-3.ensures (query_fault a.counts (in_tables a.tables.now)) (λ row answer low high p. search rules) in (
      line-later a.counts built_ins_at _ _ 0 _ no-builtin.0 refl
          (line-later a.counts exprs_at _ _ 0 _ no-expr.0 refl
          (line-later a.counts statements_at _ _ 0 _ no-statement.0 refl
          (line-later a.counts queries_at _ _ 0 _ no-query.0 refl refl))),
      tt,
    )
