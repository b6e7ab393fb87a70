-- The statements of a query are those from its first on (`count_of_lem`).
use mathlib.Core.List.{[]}
use native.Mathlib.Omega.{arith}
use Rattle.scope_gather.proofs.Laws.Queries.{first_statement_low}
use Rattle.answer_schedule.proofs.Laws.Counts.{count-few, count_of_lem}
use Rattle.answer_schedule.proofs.count.count_stmts.Goals as goal

pub count_from-requires : goal.count_from-requires
count_from-requires c =
    let pre = c.requires in
    let q = c.args.query in (
      pre.0,
      rw c.first_at-row.ensures (first_statement_low _ [] pre.0 q pre.1 pre.2),
      omega (arith, count-few _ pre.0 q, count_of_lem _ pre.0 q pre.1 pre.2 _ c.first_at-row.ensures),
    )

pub returns : goal.returns
returns c =
    let pre = c.requires in
    let e = count_of_lem _ pre.0 c.args.query pre.1 pre.2 _ c.first_at-row.ensures in
    omega (arith, e, c.count_from.ensures)
