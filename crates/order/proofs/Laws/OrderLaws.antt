-- The turn rule on the order alone, step by step: what a turn, a followed turn and a round come to.
use mathlib.Core.Path.{◌≡◌, refl, sym, ap, ◌∙◌}
use mathlib.Core.Bool.{Bool, true, false}
use mathlib.Core.List.{List, [], ◌∷◌}
use mathlib.Core.Logic.{◌⊎◌, inl, inr}
use Prim.Native.Nat.{ℕ, ◌<◌}
use lib.ListN.{length}
use borrow.Author.Tests.{eq-eqb, ne_eqb}
use Rattle.base.proofs.Laws.Truth.{bool_cases}
use Rattle.base.specs.Lists.{filter}
use Rattle.base.proofs.Laws.Ranges.{filter_none}
use Rattle.order.specs.Walk.{walk}
use Rattle.order.specs.Definitions.{Definition, defines, ready}
use Rattle.order.specs.Inner.Orders.{turn_order, followed_order, round_order}

module _ (defs : List Definition) (n : ℕ) where
  -- A turn that places nothing is not followed.
  pub followed_still : (o : List ℕ) (x : ℕ) → length (turn_order defs n x o) ≡ length o → followed_order defs n o x ≡ turn_order defs n x o
  followed_still o x e = rw (eq-eqb (length (turn_order defs n x o)) (length o) e)

  -- Any other is followed by one of the empty name.
  pub followed-more : (o : List ℕ) (x : ℕ) → (length (turn_order defs n x o) ≡ length o → ⊥)
      → followed_order defs n o x ≡ turn_order defs n 0 (turn_order defs n x o)
  followed-more o x ne = rw (ne_eqb (length (turn_order defs n x o)) (length o) ne)

  -- A round takes the names one by one.
  pub round-nil : (o : List ℕ) → round_order defs n [] o ≡ o
  unfolding round_order
  round-nil o = refl

  pub round-cons : (x : ℕ) (names o : List ℕ) → round_order defs n (x ∷ names) o ≡ round_order defs n names (followed_order defs n o x)
  unfolding round_order
  round-cons x names o = refl

  -- ---- names that no statement defines

  -- No statement below n defines x.
  abbrev pub NotDefined : ℕ → Type 0
  NotDefined x = (i : ℕ) → i < n → defines defs i x ≡ false

  -- The turn of such a name changes nothing, followed or not.
  pub turn-undefined : (x : ℕ) (o : List ℕ) → NotDefined x → turn_order defs n x o ≡ o
  turn-undefined x o none = ap (walk (ready defs) (defines defs) n o) (filter_none (λ i. defines defs i x) n none)

  pub followed-undefined : (x : ℕ) (o : List ℕ) → NotDefined x → followed_order defs n o x ≡ o
  followed-undefined x o none = let e = turn-undefined x o none in followed_still o x (ap length e) ∙ e

  -- A round may pass over such names: f is a test that only they fail.
  pub round-filter : (f : ℕ → Bool) → ((x : ℕ) → f x ≡ false → NotDefined x) → (names o : List ℕ)
      → round_order defs n names o ≡ round_order defs n (filter f names) o
  round-filter f none [] o = refl
  round-filter f none (x ∷ names) o = go (bool_cases (f x)) (round-filter f none names)
    where
      go : (f x ≡ true) ⊎ (f x ≡ false) → ((o : List ℕ) → round_order defs n names o ≡ round_order defs n (filter f names) o)
          → round_order defs n (x ∷ names) o ≡ round_order defs n (filter f (x ∷ names)) o
      go (inl q) ih = rw q (round-cons x names o ∙ ih (followed_order defs n o x) ∙ sym (round-cons x (filter f names) o))
      go (inr q) ih = rw q (round-cons x names o ∙ ap (round_order defs n names) (followed-undefined x o (none x q)) ∙ ih o)
