-- A text as lines.
use Rattle.std.specs.Prelude.{◌≡◌, Bool, true, false, List, [], ℕ, ◌≤◌, ◌<◌, length, drop}
use Rattle.sheet.specs.Text.{Text, rest, line, lines}

-- What a text starts with: its first line, or what stands behind the last newline.
abbrev pub head_line : Text → List ℕ
head_line (rest r) = r
head_line (line l t) = l

-- What follows the first line.
abbrev pub after : Text → Text
after (rest r) = rest []
after (line l t) = t

-- Is there a line?
abbrev pub is_line : Text → Bool
is_line (rest r) = false
is_line (line l t) = true

-- The line at a place.
abbrev pub line_at : List ℕ → ℕ → List ℕ
line_at s at = head_line (lines (drop at s))

-- The line at a place ends in front of another.
pub record LineTo (s : List ℕ) (at next : ℕ) : Type 0 where
  pub inside : (at < next) × (next ≤ length s)
  pub line : lines (drop at s) ≡ line (line_at s at) (lines (drop next s))
