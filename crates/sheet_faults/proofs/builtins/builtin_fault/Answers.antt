-- The row that was read.
use mathlib.Core.Path.{ap, ◌∙◌}
use Prim.Native.Nat.{◌-◌}
use Rattle.sheet_faults.specs.Inner.Tests.{builtin_by}
use Rattle.sheet_faults.proofs.Laws.Tests.{builtin-is}
use Rattle.sheet_faults.proofs.builtins.builtin_fault.Goals as goal

pub returns : goal.returns
returns c =
    let a = c.args in c.judge_builtin.ensures ∙ ap (builtin_by a.counts a.tables.now (a.row - 1)) c.builtin_at-b.ensures ∙ builtin-is a.counts a.tables.now a.row c.requires.1
