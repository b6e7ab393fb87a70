-- The two ends of a query's analysis.
use Rattle.std.specs.Prelude.{◌≡◌, true, List, ◌∷◌, ℕ, Option, None}
use Rattle.names_width.specs.declared.Width.{Width}
use Rattle.definition.specs.States.{QuerySchedule}
use Rattle.scope_state.specs.declared.Scope.{Scope}
use Rattle.scope_state.specs.Inner.Agrees.{Opened, with_inputs_of}
use Rattle.definition_state.specs.declared.Fault.{Fault}
use Rattle.definition_state.specs.declared.Progress.{Progress}
use Rattle.definition_state.specs.Inner.Faults.{is_sound}
use Rattle.definition_state.specs.Inner.Table.{Table}
use Rattle.answer_schedule.specs.Inner.Concluded.{Ending}

abbrev pub begin : Scope → Width → Progress
begin k v = record { scope = k; count = 0; fault = None; width = v }

-- The same with its scope opened.
pub record OpenedFrom (p r : Progress) : Type 0 where
  pub count : r.count ≡ p.count
  pub fault : r.fault ≡ p.fault
  pub wide : r.width ≡ p.width
  pub scope : Opened p.scope r.scope

-- The fault stays; where there is none, the schedule enters the table.
pub record Finished (t w : List ℕ) (q : ℕ) (k : Scope) (p : Progress) (l : List ℕ) (r : Option Fault) (u : List ℕ) : Type 0 where
  pub fault : r ≡ p.fault
  pub enters : is_sound p.fault ≡ true → (a : QuerySchedule) (schedules : List QuerySchedule)
      → Ending p.width t w q (with_inputs_of k p.scope) l p.count a → Table p.width t w schedules → Table p.width t u (a ∷ schedules)
