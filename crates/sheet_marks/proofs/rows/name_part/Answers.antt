-- A 0 names nothing. The place is one of the rows.
use native.Mathlib.Omega.{arith}
use borrow.Author.Rules.{rules}
use Rattle.sheet_marks.proofs.Laws.Steps.{name-zero}
use Rattle.sheet_marks.proofs.Laws.Rows.{place-bound}
use Rattle.sheet_marks.proofs.rows.name_part.Goals as goal

pub returns-then-value-eq0 : goal.returns-then-value-eq0
returns-then-value-eq0 c = name-zero _ _ _ _ c.if-value-eq0.true

pub name-requires : goal.name-requires
name-requires c =
    let a = c.args in
    let bound = place-bound a.counts c.requires.2 a.field.now a.x.now a.row c.requires.1 in
    (search rules, omega (arith, bound, c.place_of-place.ensures), c.requires.2)

pub returns : goal.returns
returns c = rw (c.name.ensures, c.place_of-place.ensures)
