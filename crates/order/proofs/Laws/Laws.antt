-- The laws of walks: what a walk keeps, and which picks change nothing.
use mathlib.Core.Path.{◌≡◌, refl, sym, ap, ◌∙◌}
use mathlib.Core.Bool.{Bool, true, false, not, ◌&&◌, ◌||◌}
use mathlib.Core.List.{List, [], ◌∷◌, ◌++◌, append_assoc, append-nil}
use mathlib.Core.Logic.{◌⊎◌, inl, inr, ⊎_elim}
use Prim.Native.Nat.{ℕ, ◌≤◌, ◌<◌}
use native.Mathlib.Omega.{arith}
use lib.Dec.{ltb, eqb}
use lib.ListN.{length, length-append}
use borrow.Author.Tests.{ltb-true, lt-ltb, eqb-true, not-true}
use Rattle.base.proofs.Laws.Truth.{bool_cases, not-both, and_intro, and_left, and_right, or_right, or_cases, or_left_comm}
use Rattle.base.specs.Lists.{elem}
use Rattle.base.proofs.Laws.Members.{elem-snoc}
use Rattle.base.proofs.Laws.Subsets.{◌⊆◌}
use Rattle.order.specs.Walk.{known, takeable, pick, walk}
use Rattle.order.specs.Inner.Count.{AddsUp}
use Rattle.order.proofs.Laws.Count.{snoc_adds_up}

-- The names known grow by those that the item gives.
pub known-snoc : (ready : (ℕ → Bool) → ℕ → Bool) (gives : ℕ → ℕ → Bool) (o : List ℕ) (i x : ℕ)
    → known ready gives (o ++ (i ∷ [])) x ≡ (gives i x || known ready gives o x)
known-snoc ready gives [] i x = refl
known-snoc ready gives (j ∷ o) i x =
    ap (λ (b : Bool). gives j x || b) (known-snoc ready gives o i x) ∙ or_left_comm (gives j x) (gives i x) (known ready gives o x)

module _ (ready : (ℕ → Bool) → ℕ → Bool) (gives : ℕ → ℕ → Bool) (n : ℕ) where
  -- ---- one pick

  -- The three parts of the test `takeable`.
  pub record Takeable (o : List ℕ) (i : ℕ) : Type 0 where
    pub below : i < n
    pub untaken : elem i o ≡ false
    pub is_ready : ready (known ready gives o) i ≡ true

  pub takeable-parts : (o : List ℕ) (i : ℕ) → takeable ready gives n o i ≡ true → Takeable o i
  takeable-parts o i t =
      let rest : (not (elem i o) && ready (known ready gives o) i) ≡ true = and_right (ltb i n) _ t in
      record {
        below = ltb-true i n (and_left _ _ t);
        untaken = not-true _ (and_left _ _ rest);
        is_ready = and_right (not (elem i o)) _ rest;
      }

  pub parts-takeable : (o : List ℕ) (i : ℕ) → Takeable o i → takeable ready gives n o i ≡ true
  parts-takeable o i t = and_intro _ _ (lt-ltb i n t.below) (and_intro _ _ (ap not t.untaken) t.is_ready)

  -- What can be taken goes to the end of the list; what cannot changes nothing.
  pub pick-taken : (o : List ℕ) (i : ℕ) → takeable ready gives n o i ≡ true → pick ready gives n o i ≡ o ++ (i ∷ [])
  pick-taken o i t = rw t

  pub pick_skipped : (o : List ℕ) (i : ℕ) → takeable ready gives n o i ≡ false → pick ready gives n o i ≡ o
  pick_skipped o i f = rw f

  -- ---- a walk

  -- A walk along two lists of picks is a walk along the one, then the other.
  pub walk-append : (o p q : List ℕ) → walk ready gives n o (p ++ q) ≡ walk ready gives n (walk ready gives n o p) q
  walk-append o [] q = refl
  walk-append o (i ∷ p) q = walk-append (pick ready gives n o i) p q

  -- What taking one item keeps, a walk keeps.
  pub walk_keeps : (P : List ℕ → Type 0) → ((o : List ℕ) (i : ℕ) → Takeable o i → P o → P (o ++ (i ∷ [])))
      → (o p : List ℕ) → P o → P (walk ready gives n o p)
  walk_keeps P keeps o [] h = h
  walk_keeps P keeps o (i ∷ p) h = walk_keeps P keeps (pick ready gives n o i) p (go (bool_cases (takeable ready gives n o i)))
    where
      go : (takeable ready gives n o i ≡ true) ⊎ (takeable ready gives n o i ≡ false) → P (pick ready gives n o i)
      go (inl t) = rw t (keeps o i (takeable-parts o i t) h)
      go (inr f) = rw f h

  -- A walk keeps what was taken, and adds to it.
  pub walk_adds : (o p : List ℕ) → (more : List ℕ) × (walk ready gives n o p ≡ o ++ more)
  walk_adds o p =
      walk_keeps (λ l. (more : List ℕ) × (l ≡ o ++ more))
      (λ l i t a. (a.0 ++ (i ∷ []), ap (λ (k : List ℕ). k ++ (i ∷ [])) a.1 ∙ append_assoc o a.0 (i ∷ []))) o p
      ([], sym (append-nil o))

  pub walk-length : (o p : List ℕ) → length o ≤ length (walk ready gives n o p)
  walk-length o p = let a = walk_adds o p in omega (arith, ap length a.1, length-append o a.0)

  -- It takes no item away.
  pub walk-elem : (i : ℕ) (o p : List ℕ) → elem i o ≡ true → elem i (walk ready gives n o p) ≡ true
  walk-elem i = walk_keeps (λ o. elem i o ≡ true) (λ o j t h. elem-snoc i j o ∙ or_right (eqb i j) _ h)

  -- If S has each item that is taken while S has those taken before, S has all that a walk takes.
  pub walk-within : (S : ℕ → Bool) → ((o : List ℕ) (i : ℕ) → Takeable o i → (λ j. elem j o) ⊆ S → S i ≡ true)
      → (o p : List ℕ) → (λ j. elem j o) ⊆ S → (λ j. elem j (walk ready gives n o p)) ⊆ S
  walk-within S next =
      walk_keeps (λ o. (λ j. elem j o) ⊆ S)
      (λ o i t sub j m.
      ⊎_elim (λ (q : eqb j i ≡ true). ap S (eqb-true j i q) ∙ next o i t sub) (sub j) (or_cases _ _ (sym (elem-snoc j i o) ∙ m)))

  -- Only numbers below n are taken.
  pub walk-below : (p : List ℕ) (i : ℕ) → elem i (walk ready gives n [] p) ≡ true → i < n
  walk-below p i m =
      ltb-true i n (walk-within (λ j. ltb j n) (λ o j t sub. lt-ltb j n t.below) [] p (λ j z. absurd (not-both z refl)) i m)

  -- What is taken and what is missing add up.
  pub walk_adds_up : (o p : List ℕ) → AddsUp n o → AddsUp n (walk ready gives n o p)
  walk_adds_up = walk_keeps (AddsUp n) (λ o i t. snoc_adds_up i o t.below t.untaken)

  -- ---- picks that are skipped

  -- A walk that takes nothing meets nothing that can be taken.
  pub walk_still : (o p : List ℕ) → length (walk ready gives n o p) ≡ length o
      → (i : ℕ) → elem i p ≡ true → takeable ready gives n o i ≡ false
  walk_still o [] h i m = absurd (not-both m refl)
  walk_still o (j ∷ p) h i m = go (bool_cases (takeable ready gives n o j)) (or_cases _ _ m) (walk_still o p)
    where
      go : (takeable ready gives n o j ≡ true) ⊎ (takeable ready gives n o j ≡ false) → (eqb i j ≡ true) ⊎ (elem i p ≡ true)
          → (length (walk ready gives n o p) ≡ length o → (i : ℕ) → elem i p ≡ true → takeable ready gives n o i ≡ false)
          → takeable ready gives n o i ≡ false
      go (inl t) at ih = absurd (omega (arith, walk-length (o ++ (j ∷ [])) p, length-append o (j ∷ []), rw t at h))
      go (inr f) (inl q) ih = ap (takeable ready gives n o) (eqb-true i j q) ∙ f
      go (inr f) (inr m) ih = ih (rw f at h) i m

  -- It leaves the list as it was.
  pub walk_same : (o p : List ℕ) → length (walk ready gives n o p) ≡ length o → walk ready gives n o p ≡ o
  walk_same o p h = let a = walk_adds o p in a.1 ∙ go a.0 (omega (arith, ap length a.1, length-append o a.0))
    where
      go : (more : List ℕ) → length more ≡ 0 → o ++ more ≡ o
      go [] z = append-nil o
      go (i ∷ more) z = absurd (omega arith)
