-- A section's heading, and what the text says where it stands.
use Rattle.std.specs.Prelude.{Bool, ◌&&◌, List, ℕ}
use Rattle.sheet.specs.Text.{Text}
use Rattle.sheet.specs.Inner.Lines.{head_line, is_line}
use Rattle.sheet.specs.Form.{same}

-- Is the first line of a text the heading h?
unfoldable pub has_line : List ℕ → Text → Bool
has_line h t = is_line t && same (head_line t) h
