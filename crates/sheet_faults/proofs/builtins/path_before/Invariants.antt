use mathlib.Core.Path.{◌≡◌}
use Rattle.sheet_faults.specs.Inner.Tests.{path_by}
use Rattle.sheet_faults.proofs.builtins.path_before.Given as goal

abbrev pub invariant-loop-row : goal.invariant-loop-row
invariant-loop-row l = path_by l.tables l.row l.b ≡ path_by l.tables l.n l.b
