-- A row of numbers along its bytes: a number, what stands behind it, and the rest of the row.
use Rattle.std.specs.Prelude.{◌≡◌, Bool, true, ◌&&◌, List, [], ◌∷◌, ℕ, suc}
use Rattle.sheet.specs.Text.{Text, lines, words, are_numbers, values}
use Rattle.sheet.specs.Inner.Lines.{head_line, after, is_line}

-- Is the first line of a text a row of k numbers?
unfoldable pub line_fits : ℕ → Text → Bool
line_fits k t = is_line t && are_numbers k (words (head_line t))

-- The bytes t start with the value v and a space, and u stands behind it.
pub record Spaced (t : List ℕ) (v : ℕ) (u : List ℕ) : Type 0 where
  pub fit : (k : ℕ) → line_fits (suc k) (lines t) ≡ line_fits k (lines u)
  pub vals : values (head_line (lines t)) ≡ v ∷ values (head_line (lines u))
  pub behind : after (lines t) ≡ after (lines u)

-- The same with a newline.
pub record LineEnded (t : List ℕ) (v : ℕ) (u : List ℕ) : Type 0 where
  pub fit : line_fits 1 (lines t) ≡ true
  pub vals : values (head_line (lines t)) ≡ v ∷ []
  pub behind : after (lines t) ≡ lines u
