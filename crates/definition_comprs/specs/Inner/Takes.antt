-- What the block of a query says of the names that it takes from around it.
use Rattle.std.specs.Prelude.{◌≡◌, true, List, ℕ, ◌<◌}
use Rattle.base.specs.Limits as limits
use Rattle.base.specs.Sets.{member}
use Rattle.names_width.specs.declared.Width.{Width}
use Rattle.scope.specs.Scopes.{contains, Scope}
use Rattle.definition.specs.States.{QuerySchedule, schedule_of, scope_in}
use Rattle.answer_text.specs.Inner.Stored.{Stored}
use Rattle.definition_state.specs.Inner.Table.{answers_of}
use Rattle.definition_comprs.specs.declared.taken.Taken.{Taken}

-- The inputs of the scope, which are names, and its flag.
pub record Takes (sc : Scope) (r : Taken) : Type 0 where
  pub inputs : (x : ℕ) → contains sc.inputs x ≡ member r.inputs.words x
  pub low : (x : ℕ) → contains sc.inputs x ≡ true → x < limits.per_name
  pub uses : sc.uses_input ≡ r.uses

-- For every table that the words hold.
abbrev pub TakenBy : Width → List ℕ → ℕ → Taken → Type 0
TakenBy v w q r = (schedules : List QuerySchedule) → Stored v (answers_of v w) schedules → Takes (scope_in (schedule_of schedules q)) r
