-- Laws of `Decimal`.
use mathlib.Core.List.{List, [], ◌∷◌}
use Prim.Native.Nat.{ℕ, zero, suc, ◌+◌, ◌/◌, ◌%◌, ◌≤◌, ◌<◌}
use native.Mathlib.Omega.{arith}
use borrow.Author.Tests.{lt-ltb, le-ltb}
use Rattle.answer_write.specs.Inner.Writes.{Puts}
use Rattle.answer_write.proofs.Laws.Writes.{puts_then}
use Rattle.answer.specs.Text.{digits}
use Rattle.answer_write.specs.Inner.Decimal.{PutsNumber}

module _ (b : List ℕ) (at n : ℕ) where
  -- One digit.
  pub number-digit : n < 10 → (c : List ℕ) (r : ℕ) → Puts b at ((48 + n) ∷ []) c r → PutsNumber b at n c r
  unfolding digits
  number-digit low c r put most h = rw (lt-ltb n 10 low) put

  -- The digits in front, and the last.
  pub number_more : 10 ≤ n → (c : List ℕ) (r : ℕ) → PutsNumber b at (n / 10) c r → (d : List ℕ) (q : ℕ)
      → Puts c r ((48 + n % 10) ∷ []) d q → PutsNumber b at n d q
  unfolding digits
  number_more high c r front d q put zero h = absurd (omega arith)
  number_more high c r front d q put (suc most) h =
      rw (le-ltb n 10 high) (puts_then b at (digits (suc most) (n / 10)) c r ((48 + n % 10) ∷ []) d q (front most (omega arith)) put)
