-- A query, over a way to analyse those inside it (scheduler.rs, `analyze_query` and `analyze_output_expr`).
use Rattle.std.specs.Prelude.{List, []}
use Rattle.std.proofs.Math.Option.{Option, none, some}
use Rattle.order.specs.Definitions.{Definition}
use Rattle.definition.specs.States.{QuerySchedule}

-- What a schedule recorded.
abbrev pub definitions_in : Option QuerySchedule → List Definition
definitions_in none = []
definitions_in (some a) = a.definitions
