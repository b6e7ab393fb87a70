-- Where the rows of the sections stand in the lent tables, an area for each section, and what the tables hold when a sheet has been
-- read.
-- Beside: include/nokchbem.h, `nokchbem_read`.
use Rattle.std.specs.Prelude.{List, [], ◌∷◌, ℕ, suc, ◌+◌, ◌*◌, zero, cond, leb}
use Rattle.std.proofs.lemmas.List.Edits.{sets}
use Rattle.base.specs.Limits.{library}
use Rattle.sheet.specs.Form.{Section, sections}
use Rattle.sheet.specs.Questions.{most_rows, section_rows}
use Rattle.sheet.specs.declared.Area.{Area}
use Rattle.sheet.specs.Text.{values}

-- ---- where rows stand

module _ (a : Area) where
  -- Where row r stands, counted from 1.
  abbrev pub row_place : ℕ → ℕ
  row_place r = a.start + a.width * r

  -- The place behind the last row.
  abbrev pub area_end : ℕ
  area_end = row_place (suc a.rows)

-- The area of a section that starts at a place: room for so many rows.
abbrev pub area_of : ℕ → Section → ℕ → Area
area_of at s n = record { start = at; width = s.width; rows = n }

-- The areas of sections with so many rows each.
unfoldable pub areas_from : ℕ → List Section → List ℕ → List Area
areas_from at [] most = []
areas_from at (s ∷ ss) [] = []
areas_from at (s ∷ ss) (n ∷ most) = area_of at s n ∷ areas_from (area_end (area_of at s n)) ss most

-- The areas of the five sections, for every call: none takes more rows than the library. The first eight entries are for counts.
unfoldable pub areas : List Area
areas = areas_from 8 sections (most_rows library)

-- ---- what the tables hold

-- What a line puts into a row so wide: its values; a name puts nothing.
abbrev pub row_values : ℕ → List ℕ → List ℕ
row_values zero l = []
row_values (suc k) l = values l

-- A line as row r, where the area has that row.
abbrev pub put_row : Area → ℕ → List ℕ → List ℕ → List ℕ
put_row a r l d = cond (leb r a.rows) (sets d (row_place a r) (row_values a.width l)) d

-- Lines as rows, the first as row r.
unfoldable pub put_rows : Area → ℕ → List (List ℕ) → List ℕ → List ℕ
put_rows a r [] d = d
put_rows a r (l ∷ ls) d = put_rows a (suc r) ls (put_row a r l d)

-- The lines of each section in its area.
unfoldable pub put_sections : List Area → List (List (List ℕ)) → List ℕ → List ℕ
put_sections [] rs d = d
put_sections (a ∷ more) [] d = d
put_sections (a ∷ more) (ls ∷ rs) d = put_sections more rs (put_rows a 1 ls d)

-- The tables, which held d, with the rows of the sheet s.
unfoldable pub tables : List ℕ → List ℕ → List ℕ
tables s d = put_sections areas (section_rows s) d
