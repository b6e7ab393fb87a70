-- The two ways out are a name and a row of values.
use mathlib.Core.Path.{sym, ◌∙◌}
use native.Mathlib.Omega.{arith}
use Prim.Native.Nat.{◌<◌}
use lib.ListN.{length}
use borrow.Author.Tests.{eqb-true, eqb-false}
use Rattle.sheet_sections.proofs.Laws.Lines.{name-line, row_line_lem}
use Rattle.sheet_sections.proofs.line_at.Goals as goal

pub returns-then-is_empty : goal.returns-then-is_empty
returns-then-is_empty c =
    let start = c.args in
    name-line start.s.now start.at start.row.now _ (eqb-true _ 0 (sym c.is_empty.ensures ∙ c.if-is_empty.true)) c.skip_line.ensures

pub returns : goal.returns
returns c =
    let start = c.args in
    let ne = eqb-false (length start.row.now) 0 (sym c.is_empty.ensures ∙ c.if-is_empty.false) in
    let some : 0 < length start.row.now = omega (arith, ne) in
    row_line_lem start.s.now start.at start.row.now _ c.row_at.new.row some c.row_at.ensures
