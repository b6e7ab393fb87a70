-- All placements, round by round.
use mathlib.Core.Path.{◌≡◌, sym, ◌∙◌}
use mathlib.Core.List.{List, []}
use Prim.Native.Nat.{ℕ, ◌-◌, ◌≤◌, ◌<◌}
use native.Mathlib.Omega.{arith}
use lib.ListN.{length}
use Rattle.base.specs.Limits as limits
use Rattle.base.specs.Lists.{range}
use Rattle.order.proofs.Laws.Walked.{walked-length, walked_adds_up, walked_same}
use Rattle.order.specs.Definitions.{Definition}
use Rattle.order.specs.Inner.Orders.{turn_order, round_order, placed_order}
use Rattle.order.proofs.Laws.OrderWalks.{round-walked}
use Rattle.order.proofs.Laws.OrderRounds.{RoundsLeft, rounds-first, rounds-last, rounds-more}
use Rattle.order_place.specs.Inner.State.{order_of, HoldsPlaced, After}
use Rattle.order_place.proofs.Laws.StateLaws.{state_order_length, after-length}
use Rattle.order_place.specs.declared.State.{State}

-- Before a round: those that are left make `result`.
pub record Placing (defs : List Definition) (n : ℕ) (result : List ℕ) (s : State) : Type 0 where
  pub holds : HoldsPlaced defs n s
  pub left : RoundsLeft defs n limits.per_name (order_of s) result

pub placing_first : {defs : List Definition} {n : ℕ} {s : State}
    → After defs n (turn_order defs n 0 []) s → Placing defs n (placed_order defs n limits.per_name) s
placing_first {defs} {n} after = record { holds = after.holds; left = rw after.now_is (rounds-first defs n limits.per_name) }

module _ {defs : List Definition} {n : ℕ} {result : List ℕ} {s : State}
    (placing : Placing defs n result s) where
  -- All n are placed: a further round would change nothing.
  pub placing_full : n ≤ s.count → After defs n result s
  placing_full full =
      let walked = round-walked defs n (range 0 limits.per_name) (order_of s) in
      let same : length (round_order defs n (range 0 limits.per_name) (order_of s)) ≡ length (order_of s) =
      omega (
        arith,
        state_order_length placing.holds,
        walked-length walked,
        walked_adds_up walked placing.holds.adds_up,
      ) in
      record { holds = placing.holds; now_is = sym (walked_same walked same) ∙ rounds-last defs n limits.per_name placing.left same }

  module _ {s' : State}
      (round : After defs n (round_order defs n (range 0 limits.per_name) (order_of s)) s') where
    -- A round placed nothing: it is the last.
    pub placing_last : s'.count ≡ s.count → After defs n result s'
    placing_last e = record {
      holds = round.holds;
      now_is =
          round.now_is ∙ rounds-last defs n limits.per_name placing.left (after-length round ∙ e ∙ sym (state_order_length placing.holds));
    }

    -- It placed something: there may be more, and fewer are left.
    pub placing_next : (s'.count ≡ s.count → ⊥) → Placing defs n result s'
    placing_next ne = record {
      holds = round.holds;
      left =
          rw round.now_is
          (rounds-more defs n limits.per_name placing.left placing.holds.adds_up
          (λ e. ne (sym (after-length round) ∙ e ∙ state_order_length placing.holds)));
    }

    pub placing_less : (s'.count ≡ s.count → ⊥) → n - s'.count < n - s.count
    placing_less ne =
        let grown = walked-length (round-walked defs n (range 0 limits.per_name) (order_of s)) in
        let fits = round.holds.adds_up in
        omega (arith, state_order_length placing.holds, after-length round, state_order_length round.holds)
