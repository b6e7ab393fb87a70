use mathlib.Core.Path.{◌≡◌}
use lib.ListN.{length}
use Rattle.sheet.specs.Naming.{namings}
use Rattle.sheet_marks.specs.Inner.Homes.{SettledHomes}
use Rattle.sheet.specs.Inner.Rows.{in_tables}
use Rattle.sheet_marks.proofs.homes.settle.Given as goal

abbrev pub invariant-loop-last : goal.invariant-loop-last
invariant-loop-last l =
    (length l.work ≡ length l.initial.work) × SettledHomes (namings l.fn.counts (in_tables l.tables)) l.last l.work
