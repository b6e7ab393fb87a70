-- Each query of a sheet that passes question 6 is analysed once, and the result is the same.
use Rattle.std.specs.Prelude.{ℕ, length}
use Rattle.sheet.specs.Sheet.{Sheet}
use Rattle.definition_once.specs.Inner.OnceWay.{analyze_query_snippet_once}
use Rattle.answer.specs.Call.{Result, finished}

-- Questions 7 and 8, each query analysed once.
unfoldable pub analysed_once : Sheet → ℕ → Result
analysed_once sheet room =
    let r = analyze_query_snippet_once sheet in
    finished (length sheet.queries) room r r.fault
