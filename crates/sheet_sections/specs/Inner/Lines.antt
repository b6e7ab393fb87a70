-- What reading a line gives, and storing it.
use Rattle.std.specs.Prelude.{◌≡◌, Bool, true, false, ◌&&◌, List, ℕ, drop, Option, Some, None}
use Rattle.sheet.specs.Text.{Text, lines}
use Rattle.sheet.specs.Inner.Lines.{LineTo, head_line, is_line, line_at}
use Rattle.sheet.specs.Form.{is_row}
use Rattle.sheet.specs.declared.Area.{Area}
use Rattle.sheet.specs.Tables.{row_values, put_row}

-- Is the first line of a text a row of a section with rows so wide?
unfoldable pub has_row : ℕ → Text → Bool
has_row k t = is_line t && is_row k (head_line t)

-- A line stands at a place, up to the next place; or none does.
abbrev pub LineEnd : List ℕ → ℕ → Option ℕ → Type 0
LineEnd s at None = is_line (lines (drop at s)) ≡ false
LineEnd s at (Some next) = LineTo s at next

-- A row so wide does, and its values are e.
pub record RowLine (s : List ℕ) (at k next : ℕ) (e : List ℕ) : Type 0 where
  pub is : has_row k (lines (drop at s)) ≡ true
  pub ends : LineTo s at next
  pub values : e ≡ row_values k (line_at s at)

abbrev pub LineRead : List ℕ → ℕ → ℕ → Option ℕ → List ℕ → Type 0
LineRead s at k None e = has_row k (lines (drop at s)) ≡ false
LineRead s at k (Some next) e = RowLine s at k next e

-- They are in row n of an area, where the table was d.
pub record RowStored (s : List ℕ) (at : ℕ) (a : Area) (n : ℕ) (d : List ℕ) (next : ℕ) (e : List ℕ) : Type 0 where
  pub is : has_row a.width (lines (drop at s)) ≡ true
  pub ends : LineTo s at next
  pub table : e ≡ put_row a n (line_at s at) d

abbrev pub LinePut : List ℕ → ℕ → Area → ℕ → List ℕ → Option ℕ → List ℕ → Type 0
LinePut s at a n d None e = has_row a.width (lines (drop at s)) ≡ false
LinePut s at a n d (Some next) e = RowStored s at a n d next e
