-- One field.
use Rattle.sheet.specs.Naming.{query_entries}
use Rattle.sheet_marks.specs.Inner.Marks.{row_work}
use Rattle.sheet_marks.proofs.rows.name_query.Goals as goal

pub returns : goal.returns
unfolding row_work query_entries
returns c = rw (c.name.ensures, c.first_at-first.ensures)
