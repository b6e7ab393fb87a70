-- Four fields, one after the other; the `name` names no row.
use mathlib.Core.Path.{sym}
use Rattle.sheet_marks.specs.Inner.Marks.{row_work}
use Rattle.sheet_marks.proofs.Laws.Rows.{unnamed-first}
use Rattle.sheet_marks.proofs.rows.name_expr.Goals as goal

pub returns : goal.returns
unfolding row_work
returns c =
    let a = c.args in
    rw (
      sym (unnamed-first a.counts a.x.now a.row a.work.now),
      c.name_part-4.ensures,
      c.next_field.ensures,
      c.name_part-3.ensures,
      c.name_part-2.ensures,
      c.name_part.ensures,
      c.of_kind-fields.ensures _ c.from.ensures,
    )
