-- A text: its bytes, its lines, and the decimal numbers on a line.
-- Beside: document 01, Sheet.
use Rattle.std.specs.Prelude.{List, [], ◌∷◌, map, ℕ, zero, suc, ◌+◌, ◌-◌, ◌*◌, cond, Bool, true, false, not, ◌&&◌, eqb, leb}
use Prim.Native.Char.{code}
use Prim.Native.String.{String, [] as none, ◌∷◌ as ◌then◌}
use Rattle.base.specs.Limits as limits
use Rattle.base.specs.Lists.{all}

-- ---- bytes

-- What ends a line.
abbrev pub newline : ℕ
newline = 10

-- What stands between the values of a row.
abbrev pub space : ℕ
space = 32

-- The bytes of a text each of whose characters is one byte.
unfoldable pub bytes : String → List ℕ
bytes none = []
bytes (c then s) = code c ∷ bytes s

-- ---- lines

-- Lines, each without the newline that ends it; last, what stands behind the last newline.
pub data Text : Type 0 where
  rest : List ℕ → Text
  line : List ℕ → Text → Text

-- A byte in front of what a text starts with.
abbrev pub push : ℕ → Text → Text
push b (rest r) = rest (b ∷ r)
push b (line l t) = line (b ∷ l) t

abbrev pub add : ℕ → Text → Text
add b t = cond (eqb b newline) (line [] t) (push b t)

-- The lines of bytes.
unfoldable pub lines : List ℕ → Text
lines [] = rest []
lines (b ∷ s) = add b (lines s)

-- ---- words and numbers

-- A byte in front of the first word.
abbrev pub join : ℕ → List (List ℕ) → List (List ℕ)
join b [] = []
join b (w ∷ ws) = (b ∷ w) ∷ ws

abbrev pub add_word : ℕ → List (List ℕ) → List (List ℕ)
add_word b ws = cond (eqb b space) ([] ∷ ws) (join b ws)

-- The words of a line, which each space divides; the empty line is one empty word.
unfoldable pub words : List ℕ → List (List ℕ)
words [] = [] ∷ []
words (b ∷ l) = add_word b (words l)

abbrev pub digit : ℕ → Bool
digit b = leb 48 b && leb b 57

-- Is there a digit, and no other behind a 0 that leads?
abbrev pub plain : List ℕ → Bool
plain [] = false
plain (b ∷ []) = true
plain (b ∷ c ∷ w) = not (eqb b 48)

-- The value of digits, behind a value v that has been read.
unfoldable pub value : ℕ → List ℕ → ℕ
value v [] = v
value v (b ∷ w) = value (v * 10 + (b - 48)) w

-- Is a word a number that a value may be?
unfoldable pub is_number : List ℕ → Bool
is_number w = all digit w && (plain w && leb (value 0 w) limits.largest_value)

-- Are the words k numbers?
unfoldable pub are_numbers : ℕ → List (List ℕ) → Bool
are_numbers zero [] = true
are_numbers zero (w ∷ ws) = false
are_numbers (suc k) [] = false
are_numbers (suc k) (w ∷ ws) = is_number w && are_numbers k ws

-- The values of a line.
unfoldable pub values : List ℕ → List ℕ
values l = map (value 0) (words l)
