-- The table of schedules, in the last words of the lent work.
use Rattle.std.specs.Prelude.{◌≡◌, true, ℕ, ◌-◌, ◌*◌, ◌≤◌, ◌<◌, ltb, length, drop}
use mathlib.Core.List.{List, Memᴰ}
use Rattle.base.specs.Lists.{all}
use Rattle.names_width.specs.declared.Width.{Width}
use Rattle.names_width.specs.Inner.Widths.{set_words}
use Rattle.answer_blocks.specs.Inner.Layout.{answers_size, word_at}
use Rattle.order.specs.Definitions.{Definition}
use Rattle.scope.specs.Statements.{stmts_of}
use Rattle.scope.specs.Scopes.{Scope}
use Rattle.scope.specs.Inner.Below.{Below}
use Rattle.definition.specs.States.{QuerySchedule}
use Rattle.definition_once.specs.Inner.Named.{NamesUnder}
use Rattle.definition_once.specs.Inner.Schedules.{EachSchedule}
use Rattle.definition_room.specs.Inner.Adds.{FitsSchedule}
use Rattle.definition_room.specs.Inner.Sums.{sum_to}
use Rattle.answer_text.specs.Inner.Stored.{Stored}
use Rattle.scope_walk.specs.Inner.Sheets.{sheet_at, query_count}

-- The words of all answers.
abbrev pub answers_of : Width → List ℕ → List ℕ
answers_of v w = drop (length w - answers_size v) w

-- The names of a scope and of its definitions lie below n.
pub record Low (n : ℕ) (sc : Scope) (defs : List Definition) : Type 0 where
  pub scope : Below n sc
  pub named : (d : Definition) → Memᴰ d defs → d.var < n
  pub used : (d : Definition) → Memᴰ d defs → all (λ x. ltb x n) d.used ≡ true

module _ (t : List ℕ) where
  -- How many statements query q has.
  abbrev pub count_at : ℕ → ℕ
  count_at q = length (stmts_of (sheet_at t) q)

  -- Where the places of query q begin: behind those of the queries before it.
  abbrev pub base_at : ℕ → ℕ
  base_at q = sum_to count_at (q - 1)

module _ (v : Width) (t : List ℕ) where
  -- Each block says where its query's places begin.
  abbrev pub Based : List ℕ → Type 0
  Based l = (q : ℕ) → 1 ≤ q → q ≤ query_count t → word_at v l q 3 ≡ base_at t q

  -- The words hold these schedules, which are those of queries of this sheet. Its names have room in the width's words, and so have those of
  -- all that is stored.
  pub record Table (w : List ℕ) (schedules : List QuerySchedule) : Type 0 where
    pub enough : answers_size v ≤ length w
    pub stored : Stored v (answers_of v w) schedules
    pub based : Based (answers_of v w)
    pub fits : (a : QuerySchedule) → Memᴰ a schedules → FitsSchedule (sheet_at t) a
    pub narrow : NamesUnder (64 * set_words v) (sheet_at t)
    pub low : EachSchedule (Low (64 * set_words v)) schedules
