-- The row that was read, with its mark.
use mathlib.Core.Path.{ap₂, ◌∙◌}
use Rattle.sheet_faults.specs.Inner.Tests.{expr_fault_by}
use Rattle.sheet_faults.proofs.Laws.Tests.{expr-is}
use Rattle.sheet_faults.proofs.noted.Noted.expr_fault.Goals as goal

pub returns : goal.returns
returns c =
    let a = c.args in let s = a.self.now in
    c.marked_expr_fault.ensures ∙ ap₂ (expr_fault_by s.counts s.tables.now) c.from-mark.ensures c.row_at.ensures
    ∙ expr-is s.counts s.tables.now s.work.now s.known a.row c.requires.0 c.requires.1
