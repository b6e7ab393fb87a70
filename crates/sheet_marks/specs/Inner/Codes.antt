-- A row's mark: 0 not named; 1 named so, 5 as the member of a chain, and eight times the place; 2 not named so, 6 as a member all the same.
use Rattle.std.specs.Prelude.{Bool, cond, ◌&&◌, ◌||◌, List, [], ◌∷◌, ℕ, ◌+◌, ◌*◌, ◌/◌, ◌%◌, eqb}
use Rattle.sheet.specs.Naming.{Naming, upwards, in_chain}

abbrev pub once_of : Bool → Bool → ℕ → ℕ
once_of up chain place = cond up (cond chain (5 + 8 * place) (1 + 8 * place)) 2

abbrev pub code_of : ℕ → List Naming → ℕ
code_of k [] = 0
code_of k (x ∷ []) = once_of (upwards x.by k) x.chain x.place
code_of k (x ∷ y ∷ xs) = cond (in_chain k (x ∷ y ∷ xs)) 6 2

-- What a mark says: is the row named so, is it a member of a chain, and where does it lie?
abbrev pub code_so : ℕ → Bool
code_so v = eqb (v % 4) 1

abbrev pub code_member : ℕ → Bool
code_member v = eqb (v / 4 % 2) 1

abbrev pub code_place : ℕ → ℕ
code_place v = v / 8

-- The mark after one naming more.
unfoldable pub next_code : ℕ → Bool → Bool → ℕ → ℕ
next_code v up chain place = cond (eqb v 0) (once_of up chain place) (cond (code_member v || (chain && up)) 6 2)
