-- Laws of `Theorems`.
use mathlib.Core.Path.{◌≡◌, sym, ap, ◌∙◌, subst}
use mathlib.Core.Bool.{Bool, true, false}
use mathlib.Core.List.{List}
use mathlib.Core.Logic.{◌↔◌}
use Prim.Native.Nat.{ℕ}
use lib.ListN.{length}
use borrow.Author.Tests.{eqb-true, eq-eqb}
use Rattle.base.proofs.Laws.Truth.{bool_ext}
use Rattle.base.specs.Lists.{elem, range}
use Rattle.order.proofs.Laws.Count.{long_has_all}
use Rattle.order.proofs.Laws.Reach.{confluent}
use Rattle.order.proofs.Laws.Walkable.{walk-walkable, walkable_adds_up, all-taken}
use Rattle.order.specs.Definitions.{Definition, Named, resolves, defines, ready, plain_walk, WalkEnded, can_be_walked}
use Rattle.order.specs.Turns.{statements, placements, placed, order, reached}
use Rattle.order.proofs.Laws.Resolving.{ready_mono}
use Rattle.order.proofs.Laws.Labels.{placed-length, placements-order}
use Rattle.order.proofs.Laws.OrderWalks.{placed-walked, placed-ended}
use Rattle.order.specs.Relisting.{Bijection, Permutes, Relisted, OrderOfAll}
use Rattle.order.proofs.Laws.Relisting.{inverse, permutes_back, relisted_back, relisted_takes}
use Rattle.order.specs.Inner.Sequence.{InSequence}
use Rattle.order.proofs.Laws.Sequence.{resolves-sequence, sequence-resolves}
use Rattle.order.specs.Inner.Theorems.{EndedWalk}

-- The statements placed, in their order, are such a walk.
pub placements-ended : (defs : List Definition) (n m : ℕ) → Named defs m → EndedWalk defs n (statements (placements defs n m))
placements-ended defs n m named =
    let w = placed-walked defs n m in record {
      picks = w.picks;
      along = placements-order defs n m ∙ w.along;
      ended = subst (WalkEnded defs n) w.along (placed-ended defs n m named);
    }

-- Every plain walk that has ended took exactly the statements marked reached.
pub ended_takes_reached : (defs : List Definition) (n m : ℕ) → Named defs m
    → (picks : List ℕ) → WalkEnded defs n (plain_walk defs n picks) → (i : ℕ) → elem i (plain_walk defs n picks) ≡ reached defs n m i
ended_takes_reached defs n m named picks ended i =
    let w = placements-ended defs n m named in
    confluent (ready defs) (defines defs) n (ready_mono defs) picks w.picks ended w.ended i ∙ ap (elem i) (sym w.along)

-- ---- relisting and exchange

module _ (π ρ : Bijection) (n : ℕ) (defs defs' : List Definition) (p : Permutes n π) (r : Relisted π.to ρ.to defs defs') where
  -- However the statements are relisted by π, the names exchanged by ρ, the empty name with them, and the definitions listed and repeated:
  -- every plain walk over one list that has ended and every one over the other took the same statements, compared through π.
  pub relisted_taken : (picks picks' : List ℕ) → WalkEnded defs n (plain_walk defs n picks) → WalkEnded defs' n (plain_walk defs' n picks')
      → (i : ℕ) → elem i (plain_walk defs n picks) ≡ elem (π.to i) (plain_walk defs' n picks')
  relisted_taken picks picks' ended ended' i =
      bool_ext _ _ (relisted_takes π ρ n defs defs' p r picks picks' ended' i)
      (λ h. ap (λ (j : ℕ). elem j (plain_walk defs n picks)) (sym (π.from-to i))
      ∙ relisted_takes (inverse π) (inverse ρ) n defs' defs (permutes_back p) (relisted_back π ρ r) picks' picks ended (π.to i) h)

  -- So do the marks reached, moved by π.
  pub relisted_reached : (m m' : ℕ) → Named defs m → Named defs' m' → (i : ℕ) → reached defs n m i ≡ reached defs' n m' (π.to i)
  relisted_reached m m' named named' i =
      let w = placements-ended defs n m named in
      let w' = placements-ended defs' n m' named' in
      ap (elem i) w.along ∙ relisted_taken w.picks w'.picks w.ended w'.ended i ∙ ap (elem (π.to i)) (sym w'.along)

module _ (defs : List Definition) (n m : ℕ) where
  -- If all are placed, the order handed out has all of them, each once, and can be walked.
  pub placed-order : Named defs m → placed defs n m ≡ true
      → OrderOfAll n (order defs n m) × (can_be_walked defs n (order defs n m) ≡ true)
  placed-order named h =
      let w = placements-ended defs n m named in
      let e : order defs n m ≡ plain_walk defs n w.picks = rw h w.along in
      let walked : can_be_walked defs n (order defs n m) ≡ true = rw e (walk-walkable (ready defs) (defines defs) n w.picks) in
      let long : length (order defs n m) ≡ n = rw h (placed-length (placements defs n m) ∙ eqb-true _ n h) in
      let sum = walkable_adds_up (ready defs) (defines defs) n (order defs n m) walked in
      (record { has = long_has_all (order defs n m) sum long; once = long }, walked)

  -- Placed exactly if some order of all statements, each once, can be walked.
  pub placed_iff : Named defs m
      → (placed defs n m ≡ true) ↔ ((q : List ℕ) × OrderOfAll n q × (can_be_walked defs n q ≡ true))
  placed_iff named = (
    λ h. let o = placed-order named h in (order defs n m, o.0, o.1),
    λ q.
        let w = placements-ended defs n m named in
        eq-eqb _ n (sym (placed-length (placements defs n m)) ∙ ap length w.along
        ∙ all-taken (ready defs) (defines defs) n (ready_mono defs) q.0 q.2 q.1.once w.picks w.ended),
  )

  -- Unplaced, the order handed out is the written one.
  pub unplaced-order : placed defs n m ≡ false → order defs n m ≡ range 0 n
  unplaced-order h = rw h

-- ---- resolving

-- The passes find that all definitions resolve exactly if they do in some sequence, each from names known or defined earlier in it.
pub resolves_iff : (K : ℕ → Bool) (defs : List Definition) → (resolves K defs ≡ true) ↔ InSequence K defs
resolves_iff K defs = (resolves-sequence K defs, sequence-resolves K defs)
