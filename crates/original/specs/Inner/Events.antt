-- What a walk over an expression does, event by event.
use Rattle.std.specs.Prelude.{List, [], ◌∷◌, ℕ}
use Rattle.order.specs.Definitions.{Definition}
use Rattle.base.specs.Lists.{concat_map}
use Rattle.sheet.specs.declared.Row.{Row}
use Rattle.scope.specs.Trees.{Tree}

-- A variable is seen, a comprehension is met, a name of an index is used, a definition is recorded.
pub data Event : Type 0 where
  seen : (w : Row) → Event
  met : (e : Tree) → Event
  used : (x : ℕ) → Event
  defined : (d : Definition) → Event

-- The variable of an event.
abbrev pub seen_at : Event → List Row
seen_at (seen w) = w ∷ []
seen_at (met e) = []
seen_at (used x) = []
seen_at (defined d) = []

-- Its comprehension.
abbrev pub met_at : Event → List Tree
met_at (seen w) = []
met_at (met e) = e ∷ []
met_at (used x) = []
met_at (defined d) = []

-- Its definition.
abbrev pub event_defines : Event → List Definition
event_defines (seen w) = []
event_defines (met e) = []
event_defines (used x) = []
event_defines (defined d) = d ∷ []

-- The variables seen, in order.
abbrev pub vars_seen : List Event → List Row
vars_seen = concat_map seen_at

-- The comprehensions met, in order.
abbrev pub comprs_met : List Event → List Tree
comprs_met = concat_map met_at

-- The definitions recorded, in order.
abbrev pub definitions_made : List Event → List Definition
definitions_made = concat_map event_defines
