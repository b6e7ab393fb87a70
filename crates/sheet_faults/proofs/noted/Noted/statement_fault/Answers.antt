-- The row that was read, with its mark.
use mathlib.Core.Path.{ap₂, ◌∙◌}
use Rattle.sheet_faults.specs.Inner.Tests.{statement_fault_by}
use Rattle.sheet_faults.proofs.Laws.Tests.{statement_fault-is}
use Rattle.sheet_faults.proofs.noted.Noted.statement_fault.Goals as goal

pub returns : goal.returns
returns c =
    let a = c.args in let s = a.self.now in
    c.marked_statement_fault.ensures ∙ ap₂ (statement_fault_by s.counts s.tables.now) c.from-mark.ensures c.statement_at.ensures
    ∙ statement_fault-is s.counts s.tables.now s.work.now s.known a.row c.requires.0 c.requires.1
