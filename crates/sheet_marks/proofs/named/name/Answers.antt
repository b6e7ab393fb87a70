-- The row that is named is one of 672, so its mark is there.
use native.Mathlib.Omega.{arith}
use Rattle.sheet_marks.proofs.Laws.Marks.{target-bound}
use Rattle.sheet_marks.proofs.named.name.Goals as goal

pub offset_bounds-work-to : goal.offset_bounds-work-to
offset_bounds-work-to c = let a = c.args in omega (arith, target-bound a.counts c.requires.2 a.field.now a.value, c.named_by-to.ensures)

pub bounds-work-to : goal.bounds-work-to
bounds-work-to c = let a = c.args in omega (arith, target-bound a.counts c.requires.2 a.field.now a.value, c.named_by-to.ensures)

pub offset_bounds-work-to-2 : goal.offset_bounds-work-to-2
offset_bounds-work-to-2 c = let a = c.args in omega (arith, target-bound a.counts c.requires.2 a.field.now a.value, c.named_by-to.ensures)

pub bounds-work-to-2 : goal.bounds-work-to-2
bounds-work-to-2 c = let a = c.args in omega (arith, target-bound a.counts c.requires.2 a.field.now a.value, c.named_by-to.ensures)
