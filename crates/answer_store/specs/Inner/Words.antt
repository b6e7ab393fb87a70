-- What the words of a query are.
use Rattle.std.specs.Prelude.{◌≡◌, Bool, List, [], ◌∷◌, ℕ, ◌+◌, ◌-◌, ◌*◌, ◌%◌, ◌≤◌, ◌<◌, length, get_or}
use Rattle.base.specs.Sets.{member}
use Rattle.names_width.specs.declared.Width.{Width}
use Rattle.names_width.specs.Inner.Widths.{set_words}
use Rattle.answer_blocks.specs.Inner.Layout.{block_size, word_at, set_at, span_at}
use Rattle.order.specs.Turns.{mark}
use Rattle.scope_state.specs.declared.Scope.{Scope}

-- The word of place k: its statement, and whether that was reached.
abbrev pub place_word : List ℕ → List ℕ → ℕ → ℕ
place_word order reached k = 2 * get_or order k 0 + get_or reached (get_or order k 0) 0

-- The first four words of a block.
abbrev pub head_words : Bool → ℕ → ℕ → Bool → List ℕ
head_words uses count base placed = (1 + mark placed) ∷ mark uses ∷ count ∷ base ∷ []

-- The list v is w, with the block of query q written: of each set what the width has room for.
pub record BlockWritten (z : Width) (w : List ℕ) (q : ℕ) (k : Scope) (l : List ℕ) (count base : ℕ) (placed : Bool) (v : List ℕ) : Type 0 where
  pub long : length v ≡ length w
  pub head : (i : ℕ) → i < 4 → word_at z v q i ≡ get_or (head_words k.uses count base placed) i 0
  pub locals : (x : ℕ) → x < 64 * set_words z → member (set_at z v q 0) x ≡ member k.locals.words x
  pub unscoped : (x : ℕ) → x < 64 * set_words z → member (set_at z v q 1) x ≡ member k.unscoped.words x
  pub inputs : (x : ℕ) → x < 64 * set_words z → member (set_at z v q 2) x ≡ member k.inputs.words x
  pub spans : (x : ℕ) → x < 64 * set_words z → span_at z v q x ≡ get_or l x 0 % 4294967296
  pub below : (i : ℕ) → i < block_size z * (q - 1) → get_or v i 0 ≡ get_or w i 0
  pub above : (i : ℕ) → block_size z * (q - 1) + block_size z ≤ i → get_or v i 0 ≡ get_or w i 0
