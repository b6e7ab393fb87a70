-- What lent bytes hold of a text that is being written.
use Rattle.std.specs.Prelude.{◌≡◌, List, ◌++◌, ◌⊎◌, ℕ, suc, ◌≤◌, ◌<◌, length, get_or}

-- A place in b: behind the text, or one past the end of b where the text does not fit.
abbrev pub Placed : List ℕ → List ℕ → ℕ → Type 0
Placed b text at = ((at ≡ length text) × (at ≤ length b)) ⊎ ((at ≡ suc (length b)) × (length b < length text))

-- The bytes b hold what they have room for of the text, and zeros behind it.
pub record Wrote (b text : List ℕ) (at : ℕ) : Type 0 where
  pub placed : Placed b text at
  pub holds : (i : ℕ) → i < length b → i < length text → get_or b i 0 ≡ get_or text i 0
  pub zeros : (i : ℕ) → length text ≤ i → get_or b i 0 ≡ 0

-- The bytes `more` are written at a place, whatever text stands in front of it.
abbrev pub Puts : List ℕ → ℕ → List ℕ → List ℕ → ℕ → Type 0
Puts b at more c r = (length c ≡ length b) × ((text : List ℕ) → Wrote b text at → Wrote c (text ++ more) r)
