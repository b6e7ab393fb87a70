-- What reading a name gives, and looking for some.
use Rattle.std.specs.Prelude.{◌≡◌, Bool, true, false, cond, List, ℕ, eqb, Option, Some, None}
use Rattle.sheet.specs.Text.{bytes}
use Rattle.sheet.specs.Inner.Lines.{LineTo, line_at}
use Rattle.sheet.specs.Questions.{is_name, row_of_name}
use Rattle.sheet.specs.declared.Special.{Special}

-- The line at a place is a name, up to the next place; or it is none.
pub record NameTo (s : List ℕ) (at next : ℕ) : Type 0 where
  pub is : is_name (line_at s at) ≡ true
  pub ends : LineTo s at next

abbrev pub NameRead : List ℕ → ℕ → Option ℕ → Type 0
NameRead s at None = is_name (line_at s at) ≡ false
NameRead s at (Some next) = NameTo s at next

-- The row where a name has been found earlier, or row n, if it is found there; else 0.
abbrev pub found : ℕ → Bool → ℕ → ℕ
found earlier here n = cond (eqb earlier 0) (cond here n 0) earlier

-- The rows of the special names of a sheet.
pub record SpecialRead (s : List ℕ) (r : Special) : Type 0 where
  pub blank : r.blank ≡ row_of_name s (bytes "_")
  pub input : r.input ≡ row_of_name s (bytes "input")
  pub «data» : r.«data» ≡ row_of_name s (bytes "data")
