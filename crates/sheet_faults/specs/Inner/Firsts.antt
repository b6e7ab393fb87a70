-- The first row of a section that is at fault, as a search finds it that calls a test.
use Rattle.std.specs.Prelude.{◌≡◌, Bool, Option, unwrap_or, IfSome, ℕ, ◌≤◌}
use Rattle.sheet.specs.Faults.{first_at_fault}

-- The test may be called at the rows 1 to `last`.
abbrev pub CallableTo : (ℕ → Type 0) → ℕ → Type 0
CallableTo pre last = (row : ℕ) → 1 ≤ row → row ≤ last → pre row

-- There it tells what the definition says.
abbrev pub Tells : (ℕ → Bool → Type 0) → (ℕ → Bool) → ℕ → Type 0
Tells post fault last = (row : ℕ) (answer : Bool) → 1 ≤ row → row ≤ last → post row answer → answer ≡ fault row

-- It is the first of the rows 1 to `last`, or there is none.
abbrev pub FirstFound : (ℕ → Bool) → ℕ → Option ℕ → Type 0
FirstFound fault last found = (unwrap_or found 0 ≡ first_at_fault fault 1 last) × IfSome found (λ row. (1 ≤ row) × (row ≤ last))
