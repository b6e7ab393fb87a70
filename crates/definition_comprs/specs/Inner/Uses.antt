-- A loop that enters a use of each name of a set.
use mathlib.Core.List.{List, foldl, map}
use Rattle.std.specs.Prelude.{ℕ}
use Rattle.base.specs.Limits as limits
use Rattle.base.specs.Lists.{filter, range}
use Rattle.base.specs.Sets.{member}
use Rattle.names.specs.Inner.Names.{Names}
use Rattle.sheet.specs.declared.Row.{Row}
use Rattle.scope.specs.Scopes.{Span}
use Rattle.definition.specs.Uses.{add_first_use}
use Rattle.definition_walk.specs.Inner.Firsts.{Firsts}

-- The row w with this name.
abbrev pub row_named : Row → ℕ → Row
row_named w x = record {
  kind = w.kind;
  name = x;
  line = w.line;
  col = w.col;
  first = w.first;
  second = w.second;
  third = w.third;
  next = w.next;
}

-- A use of the name where w stands.
abbrev pub use_at : Row → ℕ → Span
use_at w x = record { name = x; line = w.line; col = w.col }

-- Uses of the names on a list.
abbrev pub uses_of : Row → List Span → List ℕ → List Span
uses_of w spans l = foldl add_first_use spans (map (use_at w) l)

abbrev pub UsesNames : Row → Names → List ℕ → List ℕ → Type 0
UsesNames w names ws rs = (spans : List Span) → Firsts ws spans → Firsts rs (uses_of w spans (filter (member names.words) (range 0 limits.per_name)))
