-- Laws of `RustWay`.
use mathlib.Core.List.{List}
use Prim.Native.Nat.{ℕ}
use Rattle.order.specs.Definitions.{Definition}
use Rattle.sheet.specs.Sheet.{Sheet}
use Rattle.definition.specs.Inner.Queries.{definitions_in}
use Rattle.definition.specs.RustWay.{schedule_in}

-- The definitions that a query recorded; none if it is never analysed.
unfoldable pub recorded : Sheet → ℕ → List Definition
recorded sheet q = definitions_in (schedule_in sheet q)
