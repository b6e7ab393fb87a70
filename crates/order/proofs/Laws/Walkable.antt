-- Orders that can be walked: no pick of theirs is skipped.
use mathlib.Core.Path.{◌≡◌, refl, sym, ◌∙◌, subst}
use mathlib.Core.Bool.{Bool, true}
use mathlib.Core.List.{List, [], ◌∷◌, ◌++◌, append_assoc, append-nil}
use Prim.Native.Nat.{ℕ}
use lib.ListN.{length}
use Rattle.base.proofs.Laws.Truth.{and_intro, and_left, and_right}
use Rattle.order.specs.Walk.{takeable, walk, walkable, Ended}
use Rattle.order.specs.Inner.Count.{AddsUp}
use Rattle.order.proofs.Laws.Count.{nil_adds_up, long_has_all, all_is_long}
use Rattle.order.proofs.Laws.Laws.{parts-takeable, walk_keeps, walk_adds_up}
use Rattle.order.proofs.Laws.Reach.{Monotone, taken_reach, reach_taken}

module _ (ready : (ℕ → Bool) → ℕ → Bool) (gives : ℕ → ℕ → Bool) (n : ℕ) where
  -- A walk along such an order takes all of it.
  pub walkable-walk : (o p : List ℕ) → walkable ready gives n o p ≡ true → walk ready gives n o p ≡ o ++ p
  walkable-walk o [] w = sym (append-nil o)
  walkable-walk o (i ∷ p) w =
      let t : takeable ready gives n o i ≡ true = and_left _ _ w in
      rw t (walkable-walk (o ++ (i ∷ [])) p (and_right (takeable ready gives n o i) _ w) ∙ append_assoc o (i ∷ []) p)

  -- An order can be walked one pick further if that pick can be taken then.
  walkable-snoc : (o p : List ℕ) (i : ℕ) → walkable ready gives n o p ≡ true → takeable ready gives n (o ++ p) i ≡ true
      → walkable ready gives n o (p ++ (i ∷ [])) ≡ true
  walkable-snoc o [] i w t = and_intro _ _ (rw append-nil at t) refl
  walkable-snoc o (j ∷ p) i w t =
      and_intro (takeable ready gives n o j) _ (and_left _ _ w)
      (walkable-snoc (o ++ (j ∷ [])) p i (and_right (takeable ready gives n o j) _ w) (rw (append_assoc o (j ∷ []) p) t))

  -- What a walk takes can be walked.
  pub walk-walkable : (p : List ℕ) → walkable ready gives n [] (walk ready gives n [] p) ≡ true
  walk-walkable p =
      walk_keeps ready gives n (λ o. walkable ready gives n [] o ≡ true)
      (λ o i t w. walkable-snoc [] o i w (parts-takeable ready gives n o i t)) [] p refl

  -- Such an order has numbers below n, each once.
  pub walkable_adds_up : (q : List ℕ) → walkable ready gives n [] q ≡ true → AddsUp n q
  walkable_adds_up q w = subst (AddsUp n) (walkable-walk [] q w) (walk_adds_up ready gives n [] q (nil_adds_up n))

  -- If one order of all items can be walked, every walk that has ended took all items.
  pub all-taken : Monotone ready → (q : List ℕ) → walkable ready gives n [] q ≡ true → length q ≡ n
      → (p : List ℕ) → Ended ready gives n (walk ready gives n [] p) → length (walk ready gives n [] p) ≡ n
  all-taken mono q w l p end =
      all_is_long (walk ready gives n [] p) (walk_adds_up ready gives n [] p (nil_adds_up n))
      (λ i h. reach_taken ready gives n mono p end i (taken_reach ready gives n mono q i
      (rw (walkable-walk [] q w) (long_has_all q (walkable_adds_up q w) l i h))))
