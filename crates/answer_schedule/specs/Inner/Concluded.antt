-- What the end of a query's analysis does: its schedule enters the table.
use Rattle.std.specs.Prelude.{◌≡◌, Bool, List, ◌∷◌, ℕ, ◌+◌, ◌-◌, ◌*◌, ◌≤◌, ◌<◌, length, get_or, take}
use Rattle.base.specs.Limits as limit
use Rattle.names_width.specs.declared.Width.{Width}
use Rattle.names_width.specs.Widths.{limits}
use Rattle.names_width.specs.Inner.Widths.{set_words, row_words}
use Rattle.answer_blocks.specs.Inner.Layout.{places, answers_size, word_at}
use Rattle.order_bounds.specs.Inner.Answers as bounds
use Rattle.definition.specs.States.{QuerySchedule}
use Rattle.definition_room.specs.Inner.Adds.{FitsSchedule}
use Rattle.definition_room.specs.Inner.InBounds.{InBounds}
use Rattle.scope_state.specs.declared.Scope.{Scope}
use Rattle.scope_walk.specs.Inner.Sheets.{sheet_at}
use Rattle.scope_state.specs.Inner.Spans.{Agrees}
use Rattle.answer_store.specs.Inner.Writes.{Written}
use Rattle.answer_store.specs.Inner.Words.{place_word, BlockWritten}
use Rattle.definition_state.specs.Inner.Held.{Held}
use Rattle.definition_state.specs.Inner.Table.{Low, count_at, Table}

-- The words u are w, with the answer of query q written where its block said.
pub record AnswerWritten (v : Width) (w : List ℕ) (q : ℕ) (k : Scope) (l : List ℕ) (count : ℕ) (placed : Bool) (order reached u : List ℕ) : Type 0 where
  pub between : List ℕ
  pub block : BlockWritten v w q k l count (word_at v w q 3) placed between
  pub places : Written between u (places v + word_at v w q 3) count (place_word order reached)

-- The schedule a is that of query q, as the code has it: the scope k with the words l, and c rows of definitions.
pub record Ending (v : Width) (t w : List ℕ) (q : ℕ) (k : Scope) (l : List ℕ) (c : ℕ) (a : QuerySchedule) : Type 0 where
  pub query : a.query ≡ q
  pub whole : a.count ≡ count_at t q
  pub scope : Agrees k l a.scope
  pub rows : Held v w c a.definitions
  pub few : c ≤ length a.definitions
  pub bounds : InBounds (limits v) a
  pub fits : FitsSchedule (sheet_at t) a
  pub low : Low (64 * set_words v) a.scope a.definitions

-- The first c rows of w are a list that the scheduler takes, for the statements of query q.
abbrev pub Schedulable : Width → List ℕ → List ℕ → ℕ → ℕ → Type 0
Schedulable v t w q c = bounds.AcceptedList (limits v) (take (row_words v * c) w) (count_at t q) limit.most_statements limit.most_statements

-- From w to u such a schedule enters the table, and the words in front of the table stay.
pub record Concluded (v : Width) (t w : List ℕ) (q : ℕ) (k : Scope) (l : List ℕ) (c : ℕ) (u : List ℕ) : Type 0 where
  pub front : (j : ℕ) → j < length w - answers_size v → get_or u j 0 ≡ get_or w j 0
  pub enters : (a : QuerySchedule) (schedules : List QuerySchedule) → Ending v t w q k l c a → Table v t w schedules → Table v t u (a ∷ schedules)
