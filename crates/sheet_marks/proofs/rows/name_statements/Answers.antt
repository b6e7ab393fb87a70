-- The marks of the queries and the statements so far.
use borrow.Author.Rules.{rules}
use mathlib.Core.Path.{◌≡◌, subst, ap, ◌∙◌}
use Prim.Native.Nat.{ℕ, ◌-◌}
use native.Mathlib.Omega.{arith}
use Rattle.sheet.specs.declared.Statement.{Statement}
use Rattle.sheet.specs.Inner.Records.{statement_row_at}
use Rattle.sheet.specs.Inner.Rows.{in_tables}
use Rattle.sheet.specs.Naming.{statement_row, by_statements}
use Rattle.sheet_marks.specs.Inner.Marks.{Marks, row_work}
use Rattle.sheet_marks.specs.Inner.Rows.{fields_of}
use Rattle.sheet_marks.proofs.Laws.Rows.{next-statement, next-row}
use Rattle.sheet_marks.proofs.rows.name_statements.Goals as goal

pub loop-row-init : goal.loop-row-init
unfolding by_statements
loop-row-init c = (search rules, search rules, search rules, c.requires.0)

pub loop-row-preserved : goal.loop-row-preserved
loop-row-preserved c =
    let a = c.args in let l = c.loop-row in (
      search rules,
      search rules,
      search rules,
      next-row (λ k w. Marks (by_statements a.counts (in_tables a.tables.now) k) w) (λ k w. row_work a.counts (statement_row k) (fields_of (statement_row_at a.tables.now k) k) w) l.row (l.row - 1) _ l.work _
          (next-statement a.counts a.tables.now c.requires.2 (l.row - 1) l.work) (omega arith) (omega arith) (c.name_statement.ensures ∙ ap (λ (x : Statement). row_work a.counts (statement_row l.row) (fields_of x l.row) l.work) c.statement_at-x.ensures) l.invariant.3,
    )

pub returns : goal.returns
returns c =
    let a = c.args in let l = c.loop-row in let e : l.row - 1 ≡ a.counts.statements = omega arith in
    subst (λ (k : ℕ). Marks (by_statements a.counts (in_tables a.tables.now) k) l.work) e l.invariant.3

pub returns-2 : goal.returns-2
returns-2 c =
    let a = c.args in let l = c.loop-row in
    next-row (λ k w. Marks (by_statements a.counts (in_tables a.tables.now) k) w) (λ k w. row_work a.counts (statement_row k) (fields_of (statement_row_at a.tables.now k) k) w) l.row (l.row - 1) _ l.work _
    (next-statement a.counts a.tables.now c.requires.2 (l.row - 1) l.work) (omega arith) (omega arith) (c.name_statement.ensures ∙ ap (λ (x : Statement). row_work a.counts (statement_row l.row) (fields_of x l.row) l.work) c.statement_at-x.ensures) l.invariant.3
