-- Lists that a walk makes of another list, along whatever picks.
use mathlib.Core.Path.{◌≡◌, sym, ap, ◌∙◌}
use mathlib.Core.Bool.{Bool, true}
use mathlib.Core.List.{List, [], ◌++◌}
use Prim.Native.Nat.{ℕ, ◌≤◌, ◌<◌}
use lib.ListN.{length}
use Rattle.base.specs.Lists.{elem}
use Rattle.order.specs.Walk.{walk}
use Rattle.order.specs.Inner.Count.{AddsUp}
use Rattle.order.proofs.Laws.Laws.{walk-append, walk-length, walk-below, walk_adds_up, walk_same}

-- A walk along some picks makes the list l of the list o.
pub record Walked (ready : (ℕ → Bool) → ℕ → Bool) (gives : ℕ → ℕ → Bool) (n : ℕ) (o l : List ℕ) : Type 0 where
  pub picks : List ℕ
  pub along : l ≡ walk ready gives n o picks

module _ {ready : (ℕ → Bool) → ℕ → Bool} {gives : ℕ → ℕ → Bool} {n : ℕ} where
  -- A walk may be followed by another.
  unfoldable pub walked_trans : {o l k : List ℕ} → Walked ready gives n o l → Walked ready gives n l k → Walked ready gives n o k
  walked_trans {o} v w = record {
    picks = v.picks ++ w.picks;
    along =
        w.along ∙ ap (λ (j : List ℕ). walk ready gives n j w.picks) v.along
        ∙ sym (walk-append ready gives n o v.picks w.picks);
  }

  -- The list only grows.
  pub walked-length : {o l : List ℕ} → Walked ready gives n o l → length o ≤ length l
  walked-length {o} w = rw w.along (walk-length ready gives n o w.picks)

  -- It goes on adding up with what it lacks.
  pub walked_adds_up : {o l : List ℕ} → Walked ready gives n o l → AddsUp n o → AddsUp n l
  walked_adds_up {o} w s = rw w.along (walk_adds_up ready gives n o w.picks s)

  -- If it is no longer than before, it is the same list.
  pub walked_same : {o l : List ℕ} → Walked ready gives n o l → length l ≡ length o → l ≡ o
  walked_same {o} w e = w.along ∙ walk_same ready gives n o w.picks (sym (ap length w.along) ∙ e)

  -- A walk from nothing has numbers below n only.
  pub walked-below : {l : List ℕ} → Walked ready gives n [] l → (i : ℕ) → elem i l ≡ true → i < n
  walked-below w i m = walk-below ready gives n w.picks i (rw w.along at m)
