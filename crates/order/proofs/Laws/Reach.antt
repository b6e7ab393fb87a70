-- What walks can reach: the least set that no pick leads out of. Every walk that has ended takes exactly that, whatever its picks.
use mathlib.Core.Path.{◌≡◌, refl, ap, sym, ◌∙◌}
use mathlib.Core.Bool.{Bool, true, false}
use mathlib.Core.List.{List, [], ◌∷◌}
use mathlib.Core.Logic.{⊎_elim}
use Prim.Native.Nat.{ℕ, ◌<◌}
use lib.Dec.{eqb}
use borrow.Author.Tests.{eqb-true, eq-eqb}
use Rattle.base.proofs.Laws.Truth.{bool_cases, bool_ext, not-both, or_left, or_right, or_cases}
use Rattle.base.specs.Lists.{elem}
use Rattle.base.proofs.Laws.Subsets.{◌⊆◌}
use Rattle.order.specs.Walk.{known, takeable, walk, Ended}
use Rattle.order.proofs.Laws.Laws.{parts-takeable, walk-within}

-- Whoever is ready stays ready when more names are known.
abbrev pub Monotone : ((ℕ → Bool) → ℕ → Bool) → Type 0
Monotone ready = (K L : ℕ → Bool) → K ⊆ L → ready K ⊆ ready L

module _ (ready : (ℕ → Bool) → ℕ → Bool) (gives : ℕ → ℕ → Bool) (n : ℕ) where
  -- A set S of items and a set K of names that no pick leads out of: K has the names that items in S give, S the items ready from K.
  pub record Closed (S K : ℕ → Bool) : Type 0 where
    pub given : (i x : ℕ) → S i ≡ true → gives i x ≡ true → K x ≡ true
    pub taken : (i : ℕ) → i < n → ready K i ≡ true → S i ≡ true

  -- Item i is in every closed set: it is in the least one.
  abbrev pub Reach : ℕ → Type 0
  Reach i = (S K : ℕ → Bool) → Closed S K → S i ≡ true

  -- A list's items give the names known from it, and only they do.
  known_of : (o : List ℕ) (i x : ℕ) → elem i o ≡ true → gives i x ≡ true → known ready gives o x ≡ true
  known_of [] i x m g = m
  known_of (j ∷ o) i x m g =
      ⊎_elim (λ (q : eqb i j ≡ true). or_left _ _ (ap (λ (k : ℕ). gives k x) (sym (eqb-true i j q)) ∙ g))
      (λ (t : elem i o ≡ true). or_right (gives j x) _ (known_of o i x t g)) (or_cases _ _ m)

  known_in : (S K : ℕ → Bool) → Closed S K → (o : List ℕ) → (λ i. elem i o) ⊆ S → known ready gives o ⊆ K
  known_in S K c [] sub x h = absurd (not-both h refl)
  known_in S K c (i ∷ o) sub x h =
      ⊎_elim (λ (g : gives i x ≡ true). c.given i x (sub i (or_left _ _ (eq-eqb i i refl))) g)
      (λ (k : known ready gives o x ≡ true). known_in S K c o (λ j m. sub j (or_right (eqb j i) _ m)) x k) (or_cases _ _ h)

  -- What an ended walk has taken, with the names known then, is closed.
  pub ended_closed : (o : List ℕ) → Ended ready gives n o → Closed (λ i. elem i o) (known ready gives o)
  ended_closed o end = record {
    given = known_of o;
    taken = λ i h r.
        let takes : elem i o ≡ false → takeable ready gives n o i ≡ true =
        λ new. parts-takeable ready gives n o i (record { below = h; untaken = new; is_ready = r }) in
        ⊎_elim (λ m. m) (λ new. absurd (not-both (takes new) (end i))) (bool_cases (elem i o));
  }

  module _ (mono : Monotone ready) where
    -- What a walk takes lies in each closed set.
    pub walk-sound : (S K : ℕ → Bool) → Closed S K → (o p : List ℕ) → (λ i. elem i o) ⊆ S → (λ i. elem i (walk ready gives n o p)) ⊆ S
    walk-sound S K c =
        walk-within ready gives n S
        (λ o i t sub. c.taken i t.below (mono (known ready gives o) K (known_in S K c o sub) i t.is_ready))

    -- So a walk takes only what can be reached.
    pub taken_reach : (p : List ℕ) (i : ℕ) → elem i (walk ready gives n [] p) ≡ true → Reach i
    taken_reach p i m S K c = walk-sound S K c [] p (λ j z. absurd (not-both z refl)) i m

    -- A walk that has ended took all of it.
    pub reach_taken : (p : List ℕ) → Ended ready gives n (walk ready gives n [] p)
        → (i : ℕ) → Reach i → elem i (walk ready gives n [] p) ≡ true
    reach_taken p end i r = r _ _ (ended_closed (walk ready gives n [] p) end)

    -- Two walks that have ended took the same items.
    pub confluent : (p q : List ℕ) → Ended ready gives n (walk ready gives n [] p) → Ended ready gives n (walk ready gives n [] q)
        → (i : ℕ) → elem i (walk ready gives n [] p) ≡ elem i (walk ready gives n [] q)
    confluent p q endp endq i =
        bool_ext _ _ (λ m. reach_taken q endq i (taken_reach p i m)) (λ m. reach_taken p endp i (taken_reach q i m))
