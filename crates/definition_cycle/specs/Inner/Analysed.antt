-- What the analysis of the queries comes to, with the sheet in the tables t: the fault, and where there is none the schedules in work.
use Rattle.std.specs.Prelude.{◌≡◌, List, ℕ, Option}
use Rattle.names_width.specs.declared.Width.{Width}
use Rattle.definition.specs.States.{sound}
use Rattle.definition_once.specs.Inner.OnceWay.{analyze_query_snippet_once}
use Rattle.answer_text.specs.Inner.Stored.{Stored}
use Rattle.scope_walk.specs.Inner.Sheets.{sheet_at}
use Rattle.definition_state.specs.declared.Fault.{Fault}
use Rattle.definition_state.specs.Inner.Faults.{meaning}
use Rattle.definition_state.specs.Inner.Table.{answers_of}

pub record Analysed (v : Width) (t w : List ℕ) (r : Option Fault) : Type 0 where
  pub fault : meaning r ≡ (analyze_query_snippet_once (sheet_at t)).fault
  pub stored : (analyze_query_snippet_once (sheet_at t)).fault ≡ sound → Stored v (answers_of v w) (analyze_query_snippet_once (sheet_at t)).schedules
