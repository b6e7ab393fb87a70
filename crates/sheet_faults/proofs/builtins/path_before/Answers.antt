-- The built-ins that are left have the path if the first n have it.
use mathlib.Core.Path.{sym, ◌∙◌}
use native.Mathlib.Omega.{arith}
use Rattle.sheet_faults.proofs.Laws.Tests.{path_here, path_before_lem, path_none}
use Rattle.sheet_faults.proofs.builtins.path_before.Goals as goal

pub returns-then-same_path : goal.returns-then-same_path
returns-then-same_path c =
    let a = c.args in let l = c.loop-row in path_here a.tables.now a.b l.row c.loop-row-test.true c.builtin_at.result c.builtin_at.ensures (sym c.same_path.ensures ∙ c.if-same_path.true) ∙ l.invariant

pub loop-row-preserved : goal.loop-row-preserved
loop-row-preserved c =
    let a = c.args in let l = c.loop-row in path_before_lem a.tables.now a.b l.row c.loop-row-test.true c.builtin_at.result c.builtin_at.ensures (sym c.same_path.ensures ∙ c.if-same_path.false) ∙ l.invariant

pub returns : goal.returns
returns c = let a = c.args in let l = c.loop-row in path_none a.tables.now a.b l.row (omega arith) ∙ l.invariant
