-- One system of items laid into another: what is reached in the one is reached in the other. A relabelling is such, both ways.
use mathlib.Core.Path.{◌≡◌}
use mathlib.Core.Bool.{Bool, true, ◌&&◌}
use Prim.Native.Nat.{ℕ, ◌<◌}
use lib.Dec.{ltb}
use borrow.Author.Tests.{ltb-true, lt-ltb}
use Rattle.base.proofs.Laws.Truth.{and_intro, and_left, and_right}
use Rattle.order.proofs.Laws.Reach.{Reach}

module _ (ready ready' : (ℕ → Bool) → ℕ → Bool) (gives gives' : ℕ → ℕ → Bool) (n n' : ℕ) (π ρ : ℕ → ℕ) where
  -- Item i goes to π i and name x to ρ x; what item i gives, π i gives, and π i is ready wherever i would be.
  pub record Into : Type 0 where
    pub below : (i : ℕ) → i < n → π i < n'
    pub given : (i x : ℕ) → i < n → gives i x ≡ true → gives' (π i) (ρ x) ≡ true
    pub readied : (K : ℕ → Bool) (i : ℕ) → i < n → ready (λ x. K (ρ x)) i ≡ true → ready' K (π i) ≡ true

  -- If i is reached in the one, π i is reached in the other.
  pub reach_into : Into → (i : ℕ) → Reach ready gives n i → Reach ready' gives' n' (π i)
  reach_into into i r S K c = and_right (ltb i n) _ (r (λ j. ltb j n && S (π j)) (λ x. K (ρ x)) (record {
    given = λ j x s g.
        c.given (π j) (ρ x) (and_right (ltb j n) _ s) (into.given j x (ltb-true j n (and_left _ _ s)) g);
    taken = λ j l d. and_intro _ _ (lt-ltb j n l) (c.taken (π j) (into.below j l) (into.readied K j l d));
  }))
