-- Passes until one takes nothing more: enough of them end the walk.
use mathlib.Core.Path.{◌≡◌, refl, sym, ap, ◌∙◌, subst}
use mathlib.Core.Bool.{Bool, true}
use mathlib.Core.List.{List, []}
use mathlib.Core.Logic.{◌⊎◌, inl, inr, ⊎_elim}
use Prim.Native.Nat.{ℕ, zero, suc, ◌<◌}
use native.Mathlib.Omega.{arith}
use lib.ListN.{length}
use borrow.Author.Tests.{eq-eqb, ne_eqb}
use Rattle.base.proofs.Laws.Truth.{bool_cases, eq_cases}
use Rattle.base.specs.Lists.{elem}
use Rattle.order.specs.Walk.{known, takeable, Ended, rounds}
use Rattle.order.specs.Inner.Count.{missing, AddsUp}
use Rattle.order.proofs.Laws.Laws.{takeable-parts, walk_still}
use Rattle.order.proofs.Laws.Walked.{Walked, walked_trans, walked-length, walked_adds_up, walked_same}

module _ (pass : List ℕ → List ℕ) (fuel : ℕ) (o : List ℕ) where
  -- A pass that takes nothing is the last.
  pub rounds_stop : length (pass o) ≡ length o → rounds pass (suc fuel) o ≡ pass o
  rounds_stop e = rw (eq-eqb (length (pass o)) (length o) e)

  -- After any other the rounds go on.
  pub rounds_continue : (length (pass o) ≡ length o → ⊥) → rounds pass (suc fuel) o ≡ rounds pass fuel (pass o)
  rounds_continue ne = rw (ne_eqb (length (pass o)) (length o) ne)

module _ (ready : (ℕ → Bool) → ℕ → Bool) (gives : ℕ → ℕ → Bool) (n : ℕ) (pass : List ℕ → List ℕ) where
  -- If each pass is a walk, all of them together are one.
  pub rounds-walked : ((o : List ℕ) → Walked ready gives n o (pass o))
      → (fuel : ℕ) (o : List ℕ) → Walked ready gives n o (rounds pass fuel o)
  rounds-walked walked zero o = record { picks = []; along = refl }
  rounds-walked walked (suc fuel) o =
      ⊎_elim (λ (e : length (pass o) ≡ length o). rw (rounds_stop pass fuel o e) (walked o))
      (λ (ne : length (pass o) ≡ length o → ⊥). rw (rounds_continue pass fuel o ne)
      (walked_trans (walked o) (rounds-walked walked fuel (pass o))))
      (eq_cases (length (pass o)) (length o))

  -- From o the pass sweeps over the items: it is a walk along picks that meet every item that can ever be ready.
  pub record Sweeps (o : List ℕ) : Type 0 where
    pub walked : Walked ready gives n o (pass o)
    pub meets : (K : ℕ → Bool) (i : ℕ) → i < n → ready K i ≡ true → elem i walked.picks ≡ true

  module _ (sweeps : (o : List ℕ) → Sweeps o) where
    -- Where such a pass takes nothing, nothing can be taken.
    pass-ended : (o : List ℕ) → length (pass o) ≡ length o → Ended ready gives n o
    pass-ended o e i =
        ⊎_elim (λ (t : takeable ready gives n o i ≡ true).
        let w = sweeps o in
        let p = takeable-parts ready gives n o i t in
        walk_still ready gives n o w.walked.picks (sym (ap length w.walked.along) ∙ e) i
        (w.meets (known ready gives o) i p.below p.is_ready))
        (λ f. f) (bool_cases (takeable ready gives n o i))

    -- Each pass but the last takes an item: more passes than items are missing are enough.
    pub rounds-ended : (fuel : ℕ) (o : List ℕ) → AddsUp n o → missing n (λ i. elem i o) < fuel → Ended ready gives n (rounds pass fuel o)
    rounds-ended zero o s h = absurd (omega arith)
    rounds-ended (suc fuel) o s h = go (eq_cases (length (pass o)) (length o)) (rounds-ended fuel (pass o))
      where
        go : (length (pass o) ≡ length o) ⊎ (length (pass o) ≡ length o → ⊥)
            → (AddsUp n (pass o) → missing n (λ i. elem i (pass o)) < fuel → Ended ready gives n (rounds pass fuel (pass o)))
            → Ended ready gives n (rounds pass (suc fuel) o)
        go (inl e) ih =
            subst (Ended ready gives n) (sym (rounds_stop pass fuel o e ∙ walked_same (sweeps o).walked e)) (pass-ended o e)
        go (inr ne) ih =
            let s' = walked_adds_up (sweeps o).walked s in
            let l = walked-length (sweeps o).walked in
            subst (Ended ready gives n) (sym (rounds_continue pass fuel o ne)) (ih s' (omega arith))
