-- A buffer that is marked statement by statement, in their order.
use mathlib.Core.Path.{◌≡◌, ap, ◌∙◌}
use mathlib.Core.Bool.{true, false, ◌||◌}
use mathlib.Core.List.{List}
use mathlib.Core.Logic.{◌⊎◌, inl, inr}
use Prim.Native.Nat.{ℕ, ◌+◌, ◌<◌}
use native.Mathlib.Numerals.{add-one}
use native.Mathlib.Omega.{arith}
use lib.Dec.{eqb}
use lib.ListN.{length, get_or, set, take, length-set}
use lib.Seq.{take-suc, get_or-set_same, get_or-set_other}
use borrow.Author.Tests.{eqb-true, eqb-false}
use Rattle.base.proofs.Laws.Truth.{bool_cases}
use Rattle.base.proofs.Laws.Members.{elem-snoc, mem_elem, get_d_mem}
use Rattle.base.specs.Lists.{elem}
use Rattle.order.specs.Turns.{mark}
use Rattle.order_schedule.specs.Inner.Call.{MarkedBy}

-- A bound of all elements holds at each place.
pub low-at : (placed : List ℕ) (m : ℕ) → ((i : ℕ) → elem i placed ≡ true → i < m) → (at : ℕ) → at < length placed → get_or placed at 0 < m
low-at placed m low at there = low (get_or placed at 0) (mem_elem placed (get_d_mem placed at 0 there))

-- One statement more, and its mark.
module _ (placed before now : List ℕ) (at : ℕ) (there : at < length placed) where
  abbrev own : ℕ
  own = get_or placed at 0

  one-more : (i : ℕ) → elem i (take (at + 1) placed) ≡ (eqb i own || elem i (take at placed))
  one-more i = rw (add-one at) (ap (elem i) (take-suc placed at 0 there) ∙ elem-snoc i own (take at placed))

  pub marked-more : own < length before → MarkedBy (take at placed) before now → MarkedBy (take (at + 1) placed) before (set now own 1)
  marked-more room m = record { long = length-set now own 1 ∙ m.long; marks = λ i. rw (one-more i) (go i (bool_cases (eqb i own))) }
    where
      go : (i : ℕ) → (eqb i own ≡ true) ⊎ (eqb i own ≡ false) → get_or (set now own 1) i 0 ≡ mark (eqb i own || elem i (take at placed))
      go i (inl e) = rw e (ap (λ (k : ℕ). get_or (set now own 1) k 0) (eqb-true i own e) ∙ get_or-set_same now own 1 0 (omega (arith, room, m.long)))
      go i (inr e) = rw e (get_or-set_other now own i 1 0 (eqb-false i own e) ∙ m.marks i)
