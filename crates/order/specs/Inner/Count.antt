-- How many numbers below n a list lacks: what bounds the rounds, and tells when all are taken.
use Rattle.std.specs.Prelude.{◌≡◌, Bool, cond, List, ℕ, zero, suc, ◌+◌, length}
use Rattle.base.specs.Lists.{elem}

-- How many of the numbers below n are not in the set. No `abbrev`: of a numeral it would be written out.
unfoldable pub missing : ℕ → (ℕ → Bool) → ℕ
missing zero S = 0
missing (suc n) S = cond (S n) 0 1 + missing n S

-- The list and what it lacks add up to n: its elements are below n, none of them there twice.
abbrev pub AddsUp : ℕ → List ℕ → Type 0
AddsUp n l = length l + missing n (λ i. elem i l) ≡ n
