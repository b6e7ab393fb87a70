-- What reading a section gives: from one state of reading to the next.
use Rattle.std.specs.Prelude.{◌≡◌, List, ◌∷◌, ℕ, ◌+◌, ◌≤◌, ◌<◌, length, drop, Result, Ok, Err}
use Rattle.sheet.specs.Text.{lines}
use Rattle.sheet.specs.Form.{Section, Whole, faulty, also, whole_from}
use Rattle.sheet.specs.declared.Area.{Area}
use Rattle.sheet.specs.Tables.{put_rows}
use Rattle.sheet_sections.specs.declared.Progress.{Progress}

-- The next place is in the sheet, and each line in front of it took a byte.
pub record SoundProgress (s : List ℕ) (p : Progress) : Type 0 where
  pub inside : p.next ≤ length s
  pub lined : p.line ≤ p.next + 1
  pub some : 0 < p.line

-- What the text says of sections that are still to come.
unfoldable pub remaining : List Section → List ℕ → Progress → Whole
remaining ss s p = whole_from ss p.line (lines (drop p.next s))

-- A section with heading h and rows for the area a is read from p on; r is behind it. Its rows are in the table e, which was d.
pub record SectionIs (s : List ℕ) (p : Progress) (h : List ℕ) (a : Area) (d : List ℕ) (r : Progress) (e : List ℕ) : Type 0 where
  pub sound : SoundProgress s r
  pub rows : List (List ℕ)
  pub says : (c : Section) (ss : List Section) → c.heading ≡ h → c.width ≡ a.width
      → remaining (c ∷ ss) s p ≡ also rows (remaining ss s r)
  pub count : r.rows ≡ length rows
  pub table : e ≡ put_rows a 1 rows d

-- A line of it is at fault.
pub record SectionFault (s : List ℕ) (p : Progress) (h : List ℕ) (a : Area) (line : ℕ) : Type 0 where
  pub some : 0 < line
  pub says : (c : Section) (ss : List Section) → c.heading ≡ h → c.width ≡ a.width → remaining (c ∷ ss) s p ≡ faulty line

-- The one or the other.
abbrev pub SectionRead : List ℕ → Progress → List ℕ → Area → List ℕ → Result Progress ℕ → List ℕ → Type 0
SectionRead s p h a d (Ok r) e = SectionIs s p h a d r e
SectionRead s p h a d (Err line) e = SectionFault s p h a line
