-- The marks of the queries so far.
use borrow.Author.Rules.{rules}
use mathlib.Core.Path.{◌≡◌, subst}
use Prim.Native.Nat.{ℕ, ◌-◌}
use native.Mathlib.Omega.{arith}
use Rattle.sheet.specs.Inner.Rows.{in_tables}
use Rattle.sheet.specs.Naming.{query_row, query_entries, by_queries}
use Rattle.sheet_marks.specs.Inner.Marks.{Marks, row_work}
use Rattle.sheet_marks.proofs.Laws.Rows.{next-query, next-row}
use Rattle.sheet_marks.proofs.rows.name_queries.Goals as goal

pub loop-row-init : goal.loop-row-init
unfolding by_queries
loop-row-init c = (search rules, search rules, search rules, c.requires.0)

pub loop-row-preserved : goal.loop-row-preserved
loop-row-preserved c =
    let a = c.args in let l = c.loop-row in (
      search rules,
      search rules,
      search rules,
      next-row (λ k w. Marks (by_queries a.counts (in_tables a.tables.now) k) w) (λ k w. row_work a.counts (query_row k) (query_entries a.counts (in_tables a.tables.now) k) w) l.row (l.row - 1) _ l.work _
          (next-query a.counts a.tables.now c.requires.2 (l.row - 1) l.work) (omega arith) (omega arith) (c.name_query.ensures) l.invariant.3,
    )

pub returns : goal.returns
returns c =
    let a = c.args in let l = c.loop-row in let e : l.row - 1 ≡ a.counts.queries = omega arith in
    subst (λ (k : ℕ). Marks (by_queries a.counts (in_tables a.tables.now) k) l.work) e l.invariant.3

pub returns-2 : goal.returns-2
returns-2 c =
    let a = c.args in let l = c.loop-row in
    next-row (λ k w. Marks (by_queries a.counts (in_tables a.tables.now) k) w) (λ k w. row_work a.counts (query_row k) (query_entries a.counts (in_tables a.tables.now) k) w) l.row (l.row - 1) _ l.work _
    (next-query a.counts a.tables.now c.requires.2 (l.row - 1) l.work) (omega arith) (omega arith) (c.name_query.ensures) l.invariant.3
