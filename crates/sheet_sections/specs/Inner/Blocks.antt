-- What reading the rows of a section gives.
use Rattle.std.specs.Prelude.{◌≡◌, List, ℕ, ◌+◌, ◌≤◌, ◌<◌, length, drop, Result, Ok, Err}
use Rattle.sheet.specs.Text.{lines}
use Rattle.sheet.specs.Form.{stops, ends, block}
use Rattle.sheet.specs.declared.Area.{Area}
use Rattle.sheet.specs.Tables.{put_rows}
use Rattle.sheet_sections.specs.declared.Rows.{Rows}

-- The rows from a place up to an empty line; the table, which was d, is e with them.
pub record BlockRead (s : List ℕ) (at : ℕ) (a : Area) (d : List ℕ) (r : Rows) (e : List ℕ) : Type 0 where
  pub done : List (List ℕ)
  pub count : length done ≡ r.rows
  pub ended : block a.width (lines (drop at s)) ≡ ends done (lines (drop r.next s))
  pub table : e ≡ put_rows a 1 done d
  pub next : (at + r.rows < r.next) × (r.next ≤ length s)

-- So many rows, and then a line at fault.
pub record BlockStops (s : List ℕ) (at : ℕ) (a : Area) (n : ℕ) : Type 0 where
  pub fault : block a.width (lines (drop at s)) ≡ stops n
  pub few : at + n ≤ length s

-- The one or the other.
abbrev pub RowsRead : List ℕ → ℕ → Area → List ℕ → Result Rows ℕ → List ℕ → Type 0
RowsRead s at a d (Ok r) e = BlockRead s at a d r e
RowsRead s at a d (Err n) e = BlockStops s at a n
