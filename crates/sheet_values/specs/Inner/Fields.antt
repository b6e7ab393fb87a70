-- What reading a field gives.
use Rattle.std.specs.Prelude.{◌≡◌, false, List, ℕ, suc, ◌≤◌, ◌<◌, length, drop, Option, Some, None}
use Rattle.sheet.specs.Text.{newline, space, lines}
use Rattle.sheet.specs.Inner.RowLines.{line_fits, Spaced, LineEnded}
use Rattle.sheet_values.specs.declared.Number.{Number}

-- At a place stand a value and its separator.
pub record FieldIs (s : List ℕ) (at separator : ℕ) (n : Number) : Type 0 where
  pub next : (at < n.next) × (n.next ≤ length s)
  pub spaced : separator ≡ space → Spaced (drop at s) n.value (drop n.next s)
  pub ended : separator ≡ newline → LineEnded (drop at s) n.value (drop n.next s)

-- No row of numbers goes on so there.
pub record NoField (s : List ℕ) (at separator : ℕ) : Type 0 where
  pub no_space : separator ≡ space → (k : ℕ) → line_fits (suc (suc k)) (lines (drop at s)) ≡ false
  pub no_newline : separator ≡ newline → line_fits 1 (lines (drop at s)) ≡ false

-- The one or the other.
abbrev pub FieldRead : List ℕ → ℕ → ℕ → Option Number → Type 0
FieldRead s at separator None = NoField s at separator
FieldRead s at separator (Some n) = FieldIs s at separator n
