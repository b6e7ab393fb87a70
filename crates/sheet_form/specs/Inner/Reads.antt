-- What reading a sheet gives.
use Rattle.std.specs.Prelude.{◌≡◌, List, ℕ, ◌<◌, Result, Ok, Err}
use Rattle.sheet.specs.Questions.{form_fault, row_counts}
use Rattle.sheet.specs.Faults.{listed}
use Rattle.sheet.specs.Tables.{tables}
use Rattle.sheet.specs.declared.Counts.{Counts}

-- The sheet s is read, and the tables, which held d, hold e.
pub record SheetIs (s d : List ℕ) (c : Counts) (e : List ℕ) : Type 0 where
  pub formed : form_fault s ≡ 0
  pub count : listed c ≡ row_counts s
  pub table : e ≡ tables s d

-- Or a line is at fault: nothing is said of the tables.
abbrev pub SheetRead : List ℕ → List ℕ → Result Counts ℕ → List ℕ → Type 0
SheetRead s d (Ok c) e = SheetIs s d c e
SheetRead s d (Err line) e = (0 < line) × (form_fault s ≡ line)
