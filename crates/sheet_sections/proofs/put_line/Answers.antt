-- A row that the area has ends inside it (`row_inside`). Any other goes into `unused`, and the table stays.
use native.Mathlib.Omega.{arith}
use Rattle.sheet.proofs.Laws.LayoutLaws.{row_inside}
use Rattle.sheet_sections.proofs.Laws.Lines.{put_inside}
use Rattle.sheet_sections.proofs.put_line.Goals as goal

pub returns-then-r-area : goal.returns-then-r-area
returns-then-r-area c =
    let inside = row_inside c.args.area _ c.if-r-area.true in
    let start = c.args in
    put_inside start.s.now start.at start.area start.r start.table.now c.if-r-area.true (omega (arith, c.requires.2)) _ _ c.line_at.auto.row c.line_at.ensures
