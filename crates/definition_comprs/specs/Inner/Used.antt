-- What comprehensions use of the query around them.
use Rattle.std.specs.Prelude.{List, ℕ, ◌≤◌, length}
use Rattle.base.specs.Lists.{filter}
use Rattle.names.specs.Inner.Names.{Names}
use Rattle.names_width.specs.declared.Width.{Width}
use Rattle.answer_blocks.specs.Inner.Layout.{answers_size}
use Rattle.sheet.specs.declared.Row.{Row}
use Rattle.sheet.specs.Sheet.{Sheet}
use Rattle.scope.specs.Trees.{Tree}
use Rattle.scope.specs.Scopes.{elements, owns}
use Rattle.scope.specs.Scopes as spec
use Rattle.definition.specs.States.{State, schedule_of, scope_in}
use Rattle.definition.specs.Comprs.{comprs_use}
use Rattle.definition_once.specs.Inner.OnceWay.{Nested, once_way}
use Rattle.scope_walk.specs.Inner.Sheets.{Accepted}
use Rattle.scope_state.specs.declared.Scope.{Scope}
use Rattle.scope_state.specs.Inner.Agrees.{Sets}
use Rattle.definition_walk.specs.Inner.Adds.{Adds}
use Rattle.answer_text.specs.Inner.Stored.{Stored}
use Rattle.definition_state.specs.Inner.Table.{answers_of}
use Rattle.definition_comprs.specs.Inner.Lists.{ListedComprs}

-- What the query of a comprehension takes of the scope around it.
abbrev pub row_use : State → Row → List ℕ
row_use s w = filter (owns s.scope) (elements (scope_in (schedule_of s.run.schedules w.third)).inputs)

module _ (v : Width) (k : Scope) (work : List ℕ) where
  -- The names come to the set, for every state that the code's stands for.
  abbrev pub ComprStep : Row → Names → Names → Type 0
  ComprStep w a b = (s : State) → Sets k s.scope → Stored v (answers_of v work) s.run.schedules → Adds a (row_use s w) b

  -- Those of several.
  abbrev pub ComprsUsed : List Tree → Names → Names → Type 0
  ComprsUsed cs a b =
      (sheet : Sheet) (nested : Nested) (parents : List spec.Scope) (s : State) → Sets k s.scope → Stored v (answers_of v work) s.run.schedules
      → Adds a (comprs_use sheet (once_way sheet nested parents) cs s) b

-- Comprehensions in a list, wherever they lie.
pub record AsksListed (t : List ℕ) (v : Width) (rows : List ℕ) (work : List ℕ) : Type 0 where
  pub accepted : Accepted t
  pub comprehensions : ListedComprs t (λ q. ⊥) rows 0 (length rows)
  pub answers-room : answers_size v ≤ length work
