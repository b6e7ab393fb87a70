-- Sets of names as lists of machine words, a bit for each name. The lists may be of any length: how many words a set has is the limits'.
-- Beside: document 01, Port order (`BTreeSet`).
use Rattle.std.specs.Prelude.{Bool, List, [], ◌∷◌, ℕ, ◌*◌, ◌/◌, ◌%◌, ◌^◌, zero, suc, eqb, length, get_or}
use Rattle.base.specs.Lists.{filter, range}

-- Is bit k of the word w set? Bit 0 is the lowest.
unfoldable pub bit : ℕ → ℕ → Bool
bit w k = eqb (w / 2 ^ k % 2) 1

-- The word that holds the name n: 0 past the last word.
abbrev pub word_of : List ℕ → ℕ → ℕ
word_of ws n = get_or ws (n / 64) 0

-- Is the name n in the set?
unfoldable pub member : List ℕ → ℕ → Bool
member ws n = bit (word_of ws n) (n % 64)

-- The members, from the lowest up.
unfoldable pub members : List ℕ → List ℕ
members ws = filter (member ws) (range 0 (64 * length ws))

-- ---- sets that stand in a list of words

-- The w words from `at` up.
abbrev pub words_at : ℕ → List ℕ → ℕ → List ℕ
words_at zero ws at = []
words_at (suc w) ws at = get_or ws at 0 ∷ words_at w ws (suc at)
