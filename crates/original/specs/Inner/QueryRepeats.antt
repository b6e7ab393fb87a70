-- Analysing a query again changes nothing: the Rust's analysis, which analyses a comprehension's query wherever it meets the
-- comprehension, and the code's way, which does so once, have the same fault and the same schedules. Here both walk what a bracket
-- indexes once; `RustGather` and `ComprRepeats` say what the Rust's walk changes at each step: the order and the repetition of definitions.
use Rattle.std.specs.Prelude.{Bool, []}
use Rattle.base.specs.Limits.{nesting}
use Rattle.sheet.specs.Sheet.{Sheet}
use Rattle.original.specs.Inner.Distinct.{distinct}
use Rattle.original.specs.Inner.Places.{family}

-- Each query of the sheet stands at one place: going down from the outer query, no query is named twice. Every sheet that
-- passes question 6 is so: `accepted-once` in `Accepted`.
unfoldable pub queries_once : Sheet → Bool
queries_once sheet = distinct (family nesting sheet 1 [])
