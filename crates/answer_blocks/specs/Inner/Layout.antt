-- Where answers stand, by the width of sets: a block for each query that a sheet can have, and the places of all queries behind the blocks.
use Rattle.std.specs.Prelude.{◌≡◌, Bool, true, false, List, ℕ, ◌+◌, ◌-◌, ◌*◌, ◌/◌, ◌%◌, ◌≤◌, ◌<◌, eqb, length, get_or}
use Rattle.base.specs.Limits.{Limits, printing, library, most_queries, most_statements}
use Rattle.names_width.specs.declared.Width.{Width}
use Rattle.names_width.specs.declared.Width.TheVariants.{Two, Eight}
use Rattle.names_width.specs.Inner.Widths.{set_words}
use Rattle.base.specs.Sets.{words_at}

-- The words of a block: four, three sets, and the positions of the names that a set has room for, two to a word.
abbrev block_of : Limits → ℕ
block_of l = 4 + (3 + 32) * l.words

abbrev pub block_size : Width → ℕ
block_size Two = block_of printing
block_size Eight = block_of library

-- Where the places begin, and the words of all answers.
abbrev pub places : Width → ℕ
places Two = most_queries * block_size Two
places Eight = most_queries * block_size Eight

abbrev pub answers_size : Width → ℕ
answers_size Two = places Two + most_statements
answers_size Eight = places Eight + most_statements

-- Two numbers below 2 ^ 32 in a word, and its halves.
abbrev pub both : ℕ → ℕ → ℕ
both lower upper = lower % 4294967296 + 4294967296 * (upper % 4294967296)

abbrev pub half : ℕ → Bool → ℕ
half n false = n % 4294967296
half n true = n / 4294967296

module _ (v : Width) (w : List ℕ) (q : ℕ) where
  -- A word of the block of query q: 0 its state, 1 whether it uses input, 2 how many statements it has, 3 where its places begin.
  abbrev pub word_at : ℕ → ℕ
  word_at i = get_or w (block_size v * (q - 1) + i) 0

  -- Its sets: 0 the locals, 1 unscoped, 2 inputs.
  abbrev pub set_at : ℕ → List ℕ
  set_at s = words_at (set_words v) w (block_size v * (q - 1) + (4 + set_words v * s))

  -- The position of the local x.
  abbrev pub span_at : ℕ → ℕ
  span_at x = half (word_at (4 + 3 * set_words v + x / 2)) (eqb (x % 2) 1)

  -- Its place k.
  abbrev pub place_at : ℕ → ℕ
  place_at k = get_or w (places v + word_at 3 + k) 0

-- `after` is `before` with the positions l in the block of query q.
pub record SpansPut (v : Width) (before : List ℕ) (q : ℕ) (l after : List ℕ) : Type 0 where
  pub long : length after ≡ length before
  pub held : (x : ℕ) → x < 64 * set_words v → span_at v after q x ≡ get_or l x 0 % 4294967296
  pub below : (i : ℕ) → i < block_size v * (q - 1) + (4 + 3 * set_words v) → get_or after i 0 ≡ get_or before i 0
  pub above : (i : ℕ) → block_size v * (q - 1) + block_size v ≤ i → get_or after i 0 ≡ get_or before i 0
