-- Six fields, one after the other.
use Rattle.sheet_marks.specs.Inner.Marks.{row_work}
use Rattle.sheet_marks.proofs.rows.name_statement.Goals as goal

pub returns : goal.returns
unfolding row_work
returns c =
    rw (c.name-6.ensures, c.name-5.ensures, c.name-4.ensures, c.name-3.ensures, c.name-2.ensures, c.name.ensures, c.of_form-fields.ensures _ c.from.ensures)
