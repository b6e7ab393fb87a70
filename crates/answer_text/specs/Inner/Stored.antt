-- What the analysis stores of a sheet, as words: a block for each query, and the places of all queries behind the blocks.
use Rattle.std.specs.Prelude.{◌≡◌, List, ℕ, ◌+◌, ◌*◌, ◌≤◌, ◌<◌, get_or}
use Rattle.std.proofs.Math.Option.{Option, none, some}
use Rattle.base.specs.Limits as limits
use Rattle.base.specs.Sets.{member}
use Rattle.names_width.specs.declared.Width.{Width}
use Rattle.answer_blocks.specs.Inner.Layout.{word_at, set_at, span_at, place_at}
use Rattle.order.specs.Turns as turns
use Rattle.sheet.specs.Sheet.{name_bound}
use Rattle.scope.specs.Scopes.{contains, Span, span_in, is_local}
use Rattle.definition.specs.States.{QuerySchedule, schedule_of}
use Rattle.order.specs.Turns.{mark}

-- The position of a local in half a word.
pub record SpanIn (n : ℕ) (p : Span) : Type 0 where
  pub line : p.line < 65536
  pub col : p.col < 65536
  pub both : n ≡ p.line * 65536 + p.col

-- A statement and whether it was reached, in a word.
pub record PlaceIn (n i r : ℕ) : Type 0 where
  pub index : i < 65536
  pub both : n ≡ 2 * i + r

-- The block of an analysed query.
pub record HoldsSchedule (v : Width) (w : List ℕ) (q : ℕ) (a : QuerySchedule) : Type 0 where
  pub placed : word_at v w q 0 ≡ 1 + mark (turns.placed a.definitions a.count name_bound)
  pub input : word_at v w q 1 ≡ mark a.scope.uses_input
  pub count : word_at v w q 2 ≡ a.count
  pub room : word_at v w q 3 + a.count ≤ limits.most_statements
  pub locals : (x : ℕ) → is_local a.scope x ≡ member (set_at v w q 0) x
  pub unscoped : (x : ℕ) → contains a.scope.unscoped x ≡ member (set_at v w q 1) x
  pub inputs : (x : ℕ) → contains a.scope.inputs x ≡ member (set_at v w q 2) x
  pub spans : (x : ℕ) (p : Span) → span_in a.scope.locals x ≡ some p → SpanIn (span_at v w q x) p
  pub places : (k : ℕ) → k < a.count
      → (let i = get_or (turns.order a.definitions a.count name_bound) k 0 in
      PlaceIn (place_at v w q k) i (mark (turns.reached a.definitions a.count name_bound i)))

-- The block of any query: its first word is 0 where it is never analysed.
abbrev pub StoredAt : Width → List ℕ → ℕ → Option QuerySchedule → Type 0
StoredAt v w q none = word_at v w q 0 ≡ 0
StoredAt v w q (some a) = HoldsSchedule v w q a

-- The words of a table of schedules.
abbrev pub Stored : Width → List ℕ → List QuerySchedule → Type 0
Stored v w schedules = (q : ℕ) → 1 ≤ q → q ≤ limits.most_queries → StoredAt v w q (schedule_of schedules q)
