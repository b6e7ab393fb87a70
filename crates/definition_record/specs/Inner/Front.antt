-- The words in front of the table of schedules are lent by themselves: definitions that are appended to them leave the table as it was.
use Rattle.std.specs.Prelude.{List, ℕ, ◌+◌, length}
use Rattle.definition_state.specs.declared.Progress.{Progress}
use Rattle.definition_state.specs.Inner.Frames.{Room}

-- There is room for so many definitions more.
abbrev pub FitsFront : Progress → List ℕ → ℕ → Type 0
FitsFront p w more = Room p.width (length w) (p.count + more)
