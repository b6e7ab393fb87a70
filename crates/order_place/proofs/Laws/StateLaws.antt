-- The state: where it begins, and how long its order is.
use mathlib.Core.Path.{◌≡◌, sym, ap, ◌∙◌}
use mathlib.Core.List.{List, []}
use Prim.Native.Nat.{ℕ}
use native.Mathlib.Omega.{arith}
use lib.ListN.{length}
use lib.Seq.{length-take-le}
use Rattle.base.proofs.Laws.Truth.{not-both}
use Rattle.base.specs.Limits as limits
use Rattle.names.specs.Inner.Sets.{Empty}
use Rattle.order.proofs.Laws.Count.{nil_adds_up}
use Rattle.order.specs.Definitions.{Definition}
use Rattle.order_place.specs.Inner.State.{order_of, HoldsPlaced, After}
use Rattle.order_place.specs.declared.State.{State}

-- Nothing is placed yet.
pub begins : (defs : List Definition) (n : ℕ) (s : State) → s.count ≡ 0 → length s.order ≡ limits.most_statements → Empty s.placed.words → Empty s.idle.words
    → (length s.known.words ≡ 8) × Empty s.known.words → After defs n [] s
begins defs n s none long placed idle known =
    let o : order_of s ≡ [] = rw none in
    record {
      holds = record {
        long = long;
        filled = omega arith;
        adds_up = rw o (nil_adds_up n);
        taken = λ i. rw o (placed.has i);
        rests = λ i m. absurd (not-both m (placed.has i));
        idles = λ i m. absurd (not-both m (idle.has i));
        knows = record { long = known.0; has = λ x. rw o (known.1.has x) };
      };
      now_is = o;
    }

-- The state counts the statements of its order.
pub state_order_length : {defs : List Definition} {n : ℕ} {s : State} → HoldsPlaced defs n s → length (order_of s) ≡ s.count
state_order_length {s = s} h = length-take-le s.count s.order (omega (arith, h.long, h.filled))

pub after-length : {defs : List Definition} {n : ℕ} {o : List ℕ} {s : State} → After defs n o s → length o ≡ s.count
after-length after = sym (ap length after.now_is) ∙ state_order_length after.holds
