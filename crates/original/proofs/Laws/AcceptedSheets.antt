-- The same of every sheet that passes the questions 5 and 6 and is analysed without a fault.
use mathlib.Core.Path.{◌≡◌}
use mathlib.Core.Bool.{true, false}
use mathlib.Core.List.{List}
use Prim.Native.Nat.{ℕ}
use Rattle.sheet.specs.declared.Counts.{Counts}
use Rattle.sheet.specs.Inner.Records.{Within}
use Rattle.sheet.specs.declared.Special.{Special}
use Rattle.sheet.specs.Faults.{first_line}
use Rattle.sheet.specs.Inner.Sheet.{sheet_of}
use Rattle.scope.specs.Scopes.{contains}
use Rattle.definition.specs.States.{sound, scope_in}
use Rattle.definition_once.specs.Inner.OnceWay.{analyze_query_snippet_once, schedule_once}
use Rattle.original.proofs.Laws.Accepted.{accepted-once}
use Rattle.original.specs.Inner.EveryInput.{FoundAround}
use Rattle.original.proofs.Laws.EveryInput.{every_input_found, outer_has_none}
use Rattle.sheet.specs.Inner.Rows.{in_tables}

module _ (c : Counts) (x : Special) (t : List ℕ) (few : Within c) (none : first_line c (in_tables t) ≡ 0)
    (s : (analyze_query_snippet_once (sheet_of c x t)).fault ≡ sound)
  where
    -- Each input of each query is found in a scope around the query.
    pub accepted_input_found : (q n : ℕ) → contains (scope_in (schedule_once (sheet_of c x t) q)).inputs n ≡ true → FoundAround (sheet_of c x t) q n
    accepted_input_found = every_input_found (sheet_of c x t) (accepted-once c x t few none) s

    -- The outer query has none.
    pub accepted-outer : (n : ℕ) → contains (scope_in (schedule_once (sheet_of c x t) 1)).inputs n ≡ false
    accepted-outer = outer_has_none (sheet_of c x t) (accepted-once c x t few none) s
