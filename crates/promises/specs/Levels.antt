-- The analysis with some number of levels: any number from the deepest on is as good.
-- Beside: document 01, Sheet (nesting 8).
use Rattle.std.specs.Prelude.{[], ℕ, length}
use Rattle.sheet.specs.Sheet.{Sheet}
use Rattle.definition.specs.RustWay.{analyze}
use Rattle.answer.specs.Call.{Result, finished}

-- Questions 7 and 8, with so many levels.
abbrev pub analysed_to : ℕ → Sheet → ℕ → Result
analysed_to levels sheet room =
    let r = analyze levels sheet [] 1 [] in
    finished (length sheet.queries) room r r.fault
