-- The row that was read, with its mark.
use mathlib.Core.Path.{ap₂, ◌∙◌}
use Prim.Native.Nat.{ℕ}
use native.Mathlib.Omega.{arith}
use Rattle.sheet_faults.specs.Inner.Tests.{query_fault_by}
use Rattle.sheet_faults.proofs.Laws.Tests.{query_fault-is}
use Rattle.sheet_faults.proofs.noted.Noted.query_fault.Goals as goal

pub returns : goal.returns
returns c =
    let a = c.args in let s = a.self.now in
    c.marked_query_fault.ensures ∙ ap₂ (λ (v first : ℕ). query_fault_by s.counts s.tables.now v a.row first) c.from-mark.ensures c.first_at.ensures
    ∙ query_fault-is s.counts s.tables.now s.work.now s.known a.row (omega (arith, s.known.within.few-queries, c.requires))
