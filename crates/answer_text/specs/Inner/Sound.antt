-- What the writer asks of the words, so that no place lies outside them and no value is past 65,535. It holds of all that are stored.
use Rattle.std.specs.Prelude.{◌≡◌, true, List, ℕ, ◌+◌, ◌≤◌, ◌<◌}
use Rattle.base.specs.Limits as limits
use Rattle.base.specs.Sets.{member}
use Rattle.names_width.specs.declared.Width.{Width}
use Rattle.answer_blocks.specs.Inner.Layout.{word_at, set_at, span_at, place_at}

-- The words of a query that is analysed.
pub record Bounds (v : Width) (w : List ℕ) (q : ℕ) : Type 0 where
  pub state : word_at v w q 0 ≤ 2
  pub input : word_at v w q 1 ≤ 1
  pub room : word_at v w q 3 + word_at v w q 2 ≤ limits.most_statements
  pub span : (x : ℕ) → member (set_at v w q 0) x ≡ true → span_at v w q x < 4294967296
  pub place : (k : ℕ) → k < word_at v w q 2 → place_at v w q k < 131072

abbrev pub SoundBlocks : Width → List ℕ → Type 0
SoundBlocks v w = (q : ℕ) → 1 ≤ q → q ≤ limits.most_queries → 1 ≤ word_at v w q 0 → Bounds v w q
