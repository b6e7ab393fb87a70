-- All placements, round by round: what is left of them after each round.
use mathlib.Core.Path.{◌≡◌, refl, sym, ◌∙◌}
use mathlib.Core.List.{List, []}
use Prim.Native.Nat.{ℕ, zero, suc, ◌≤◌, ◌<◌}
use native.Mathlib.Omega.{arith}
use lib.ListN.{length}
use Rattle.base.specs.Lists.{elem, range}
use Rattle.order.specs.Walk.{rounds}
use Rattle.order.specs.Inner.Count.{missing, AddsUp}
use Rattle.order.proofs.Laws.Count.{nil_adds_up}
use Rattle.order.proofs.Laws.Walked.{walked-length, walked_adds_up}
use Rattle.order.proofs.Laws.Rounds.{rounds_stop, rounds_continue}
use Rattle.order.specs.Definitions.{Definition}
use Rattle.order.specs.Inner.Orders.{turn_order, round_order, placed_order}
use Rattle.order.proofs.Laws.OrderWalks.{turn-walked, round-walked}

module _ (defs : List Definition) (n m : ℕ) where
  -- From o the rounds over the names below m come to the result: the next round, and as many after it as statements are missing.
  pub record RoundsLeft (o result : List ℕ) : Type 0 where
    pub fuel : ℕ
    pub enough : missing n (λ i. elem i o) ≤ fuel
    pub rest : rounds (round_order defs n (range 0 m)) (suc fuel) o ≡ result

  -- After the opening turn all rounds are left.
  pub rounds-first : RoundsLeft (turn_order defs n 0 []) (placed_order defs n m)
  unfolding placed_order
  rounds-first =
      let s = walked_adds_up (turn-walked defs n 0 []) (nil_adds_up n) in
      record { fuel = n; enough = omega arith; rest = refl }

  module _ {o result : List ℕ} where
    -- A round that places nothing is the last.
    pub rounds-last : RoundsLeft o result → length (round_order defs n (range 0 m) o) ≡ length o
        → round_order defs n (range 0 m) o ≡ result
    rounds-last left e = sym (rounds_stop (round_order defs n (range 0 m)) left.fuel o e) ∙ left.rest

    -- After any other there are more.
    pub rounds-more : RoundsLeft o result → AddsUp n o → (length (round_order defs n (range 0 m) o) ≡ length o → ⊥)
        → RoundsLeft (round_order defs n (range 0 m) o) result
    rounds-more left s ne =
        go left.fuel left.enough (sym (rounds_continue (round_order defs n (range 0 m)) left.fuel o ne) ∙ left.rest)
      where
        fewer : missing n (λ i. elem i (round_order defs n (range 0 m) o)) < missing n (λ i. elem i o)
        fewer = let w = round-walked defs n (range 0 m) o in omega (arith, walked-length w, walked_adds_up w s)

        go : (k : ℕ) → missing n (λ i. elem i o) ≤ k → rounds (round_order defs n (range 0 m)) k (round_order defs n (range 0 m) o) ≡ result
            → RoundsLeft (round_order defs n (range 0 m) o) result
        go zero h r = absurd (omega (arith, fewer))
        go (suc k) h r = record { fuel = k; enough = omega (arith, fewer); rest = r }
