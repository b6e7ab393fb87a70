-- What reading a row gives.
use Rattle.std.specs.Prelude.{◌≡◌, true, false, List, ℕ, drop, Option, Some, None}
use Rattle.sheet.specs.Text.{lines, values}
use Rattle.sheet.specs.Inner.Lines.{LineTo, line_at}
use Rattle.sheet.specs.Inner.RowLines.{line_fits}

-- At a place stands a row of k values, which are e, up to the next place.
pub record RowIs (s : List ℕ) (at k next : ℕ) (e : List ℕ) : Type 0 where
  pub fits : line_fits k (lines (drop at s)) ≡ true
  pub ends : LineTo s at next
  pub values : e ≡ values (line_at s at)

-- It does, or does not.
abbrev pub RowRead : List ℕ → ℕ → ℕ → Option ℕ → List ℕ → Type 0
RowRead s at k None e = line_fits k (lines (drop at s)) ≡ false
RowRead s at k (Some next) e = RowIs s at k next e
