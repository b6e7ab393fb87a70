-- Sets of as many words as a width says, in lists of words. Two and eight are instances; nothing below depends on which.
use Rattle.std.specs.Prelude.{◌≡◌, List, ℕ, ◌+◌, ◌*◌, ◌≤◌, ◌<◌, length, get_or}
use Rattle.base.specs.Sets.{member, words_at}
use Rattle.names_width.specs.declared.Width.{Width}
use Rattle.names_width.specs.Widths.{limits}

abbrev pub set_words : Width → ℕ
set_words w = (limits w).words

abbrev pub names : Width → ℕ
names w = (limits w).names

abbrev pub work : Width → ℕ
work w = (limits w).work

abbrev pub row_words : Width → ℕ
row_words w = (limits w).row

-- The same members, whatever the number of words.
pub record Same (a b : List ℕ) : Type 0 where
  pub has : (n : ℕ) → member a n ≡ member b n

-- `after` is `before` with the members of a that w words have room for in the w words from `at` up.
pub record Put (w : ℕ) (before : List ℕ) (at : ℕ) (a after : List ℕ) : Type 0 where
  pub long : length after ≡ length before
  pub held : (n : ℕ) → n < 64 * w → member (words_at w after at) n ≡ member a n
  pub below : (i : ℕ) → i < at → get_or after i 0 ≡ get_or before i 0
  pub above : (i : ℕ) → at + w ≤ i → get_or after i 0 ≡ get_or before i 0
