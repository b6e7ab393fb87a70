-- How `next` finds a member: word by word, by the lowest bit of each from `from` up.
use mathlib.Core.Path.{◌≡◌, ap, ◌∙◌}
use mathlib.Core.List.{List}
use mathlib.Core.Logic.{⊎_elim}
use Prim.Native.Nat.{ℕ, ◌+◌, ◌-◌, ◌*◌, ◌≤◌, ◌<◌}
use native.Mathlib.Omega.{arith}
use lib.ListN.{length, get_or}
use Rattle.base.proofs.Laws.Truth.{lt_cases}
use Rattle.base.specs.Sets.{member}
use Rattle.names.specs.Inner.Sets.{Gap, Next}
use Rattle.names.specs.Inner.Lowest.{LowestBit}
use Rattle.names.proofs.Laws.Words.{member-at}

-- The words before word i have no member from `from` up, and k is the lowest bit of word i from there.
module _ (ws : List ℕ) (from i k : ℕ) (passed : Gap ws from (64 * i)) (lowest : LowestBit (get_or ws i 0) (from - 64 * i) k) where
  gap-to : (e : ℕ) → e ≤ 64 → e ≤ k → Gap ws from (64 * i + e)
  gap-to e h below n l u =
      ⊎_elim (λ (b : n < 64 * i). passed n l b)
      (λ (b : 64 * i ≤ n).
      let split : n ≡ 64 * i + (n - 64 * i) = omega arith in
      ap (member ws) split ∙ member-at ws i (n - 64 * i) (omega arith) ∙ lowest.gap (n - 64 * i) (omega arith) (omega arith))
      (lt_cases n (64 * i))

  -- There is none: go on at the next word.
  pub gap-over : 64 ≤ k → Gap ws from (64 * (i + 1))
  gap-over h n l u = gap-to 64 (omega arith) h n l (omega arith)

  -- There is one: it is the answer.
  pub next-found : (end : ℕ) → 64 * length ws ≡ end → i < length ws → k < 64 → Next ws end from (64 * i + k)
  next-found end whole inside h = record {
    whole = whole;
    low = omega arith;
    high = omega arith;
    gap = gap-to k (omega arith) (omega arith);
    found = λ l. member-at ws i k h ∙ lowest.found h;
  }

-- No word is left.
pub next-none : (ws : List ℕ) (end from : ℕ) → 64 * length ws ≡ end → Gap ws from end → Next ws end from end
next-none ws end from whole passed =
    record { whole = whole; low = omega arith; high = omega arith; gap = passed; found = λ l. absurd (omega arith) }
