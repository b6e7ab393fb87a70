-- What the two ends of a query's analysis leave.
use mathlib.Core.Path.{◌≡◌, refl}
use mathlib.Core.Bool.{true}
use mathlib.Core.List.{List}
use Prim.Native.Nat.{ℕ}
use Rattle.std.specs.Prelude.{Option}
use Rattle.scope_state.specs.declared.Scope.{Scope}
use Rattle.scope_state.specs.Inner.Agrees.{Opened, with_inputs_of}
use Rattle.definition_state.specs.declared.Fault.{Fault}
use Rattle.definition_state.specs.declared.Progress.{Progress}
use Rattle.definition_state.specs.Inner.Faults.{is_sound}
use Rattle.definition_state.specs.Inner.Frames.{scoped}
use Rattle.answer_schedule.specs.Inner.Concluded.{Concluded}
use Rattle.definition_cycle.specs.Inner.Ends.{OpenedFrom, Finished}

pub opened_from : (p r : Progress) (k : Scope) → Opened p.scope k → r ≡ scoped p k → OpenedFrom p r
opened_from p r k put is = rw is (record { count = refl; fault = refl; wide = refl; scope = put })

module _ (t w : List ℕ) (q : ℕ) (k : Scope) (p : Progress) (l : List ℕ) (r : Option Fault) (same : r ≡ p.fault) where
  -- The query is concluded.
  pub query-finished : (whole : Scope) → whole ≡ with_inputs_of k p.scope → (u : List ℕ) → Concluded p.width t w q whole l p.count u → Finished t w q k p l r u
  query-finished whole is u done = record {
    fault = same;
    enters = λ fine a schedules h table. done.enters a schedules (rw is h) table;
  }

  -- It is not, at a fault.
  pub unfinished : (is_sound p.fault ≡ true → ⊥) → (u : List ℕ) → Finished t w q k p l r u
  unfinished faulty u = record { fault = same; enters = λ fine. absurd (faulty fine) }
