-- The rows, and the list of definitions that they stand for.
use mathlib.Core.Path.{◌≡◌}
use mathlib.Core.List.Memᴰ
use mathlib.Core.List.{List, Memᴰ}
use mathlib.Core.Logic.{⊎_elim}
use Prim.Native.Nat.{ℕ, zero, suc, ◌+◌, ◌-◌, ◌*◌, ◌≤◌, ◌<◌}
use native.Mathlib.Omega.{arith}
use Rattle.base.specs.Lists.{counted, range}
use Rattle.base.proofs.Laws.Ranges.{elem-range}
use Rattle.base.proofs.Laws.Members.{elem_mem}
use lib.ListN.{length, get_or}
use Rattle.names_width.proofs.Laws.Laws.{words_same, words-length, row_words_lem}
use Rattle.names_width.specs.Inner.Widths.{set_words, row_words}
use Rattle.names_width.specs.declared.Width.{Width}
use Rattle.order.specs.Definitions.{Definition}
use Rattle.order.specs.Call.{row_count, used_words_at, definition_at, definitions}

counted-below : {n : ℕ} (a c : ℕ) → Memᴰ n (counted a c) → n < a + c
counted-below a zero m = absurd (Memᴰ.not-nil m)
counted-below {n} a (suc c) m =
    ⊎_elim (λ (e : n ≡ a). omega arith) (λ (t : Memᴰ n (counted (suc a) c)). omega (arith, counted-below (suc a) c t))
    (Memᴰ.cases_cons m)

module _ (w : ℕ) (ws : List ℕ) where
  -- The definition of each row is on the list.
  pub row_listed : (k : ℕ) → k < row_count w ws → Memᴰ (definition_at w ws k) (definitions w ws)
  unfolding definitions
  row_listed k h = Memᴰ.map (definition_at w ws) (elem_mem k (range 0 (row_count w ws)) (elem-range k 0 (row_count w ws) (omega arith) h))

  -- No other is.
  pub listed-row : {d : Definition} → Memᴰ d (definitions w ws) → (k : ℕ) × (k < row_count w ws) × (definition_at w ws k ≡ d)
  unfolding definitions range
  listed-row m =
      let at = Memᴰ.of_map (definition_at w ws) (range 0 (row_count w ws)) m in
      let below : at.0 < 0 + (row_count w ws - 0) = counted-below 0 (row_count w ws - 0) at.1 in
      (at.0, omega arith, at.2)

-- A row is the same where its words are.
pub row_same : (v : ℕ) → 2 ≤ v → (ws rs : List ℕ) (k : ℕ) → ((i : ℕ) → v * k ≤ i → i < v * k + v → get_or ws i 0 ≡ get_or rs i 0)
    → definition_at v ws k ≡ definition_at v rs k
row_same v two ws rs k h =
    rw (
      h (v * k) (omega arith) (omega arith),
      h (v * k + 1) (omega arith) (omega arith),
      words_same (v - 2) ws rs (v * k + 2) (λ i a b. h i (omega arith) (omega arith)),
    )

-- The used names of a row have as many words as a set of the width.
pub used-whole : (v : Width) (ws : List ℕ) (k : ℕ) → 64 * length (used_words_at (row_words v) ws k) ≡ 64 * set_words v
used-whole v ws k = omega (arith, words-length (row_words v - 2) ws (row_words v * k + 2), row_words_lem v)
