-- What takes elements up to the first fault: settled, if it is settled without faults.
use mathlib.Core.Path.{◌≡◌, refl, sym, ap, ◌∙◌, subst}
use mathlib.Core.Bool.{false}
use mathlib.Core.List.{List, [], ◌∷◌, foldl}
use mathlib.Core.Logic.{◌⊎◌, inl, inr, ⊎_elim}
use Rattle.definition.specs.States.{Fault, sound, undefined, used_before, lengths, index_variable, if_sound}
use Rattle.original.specs.Inner.Settled.{Settled}
use Rattle.original.specs.Inner.Beside.{no_fault}
use Rattle.original.proofs.Laws.Beside.{if_sound-failed}
use Rattle.original.proofs.Laws.RustWrites.{failed_cases}

-- A state and the first fault.
pub record Gated (S : Type 0) : Type 0 where
  pub state : S
  pub fault : Fault

module _ {S E : Type 0} (step : S → E → S) (fault_of : E → Fault) where
  -- An element with its fault, if there is none so far.
  abbrev pub enter_with : Fault → E → S → Gated S
  enter_with f e p = if_sound f (λ k. record { state = step k.state e; fault = sound }) (record { state = p; fault = f })

  -- The element, unless there is a fault already.
  abbrev pub gate : Gated S → E → Gated S
  gate g e = if_sound g.fault (λ h. enter_with (fault_of e) e h.state) g

  -- After a fault nothing changes.
  gate-failed : (g : Gated S) (e : E) → no_fault g.fault ≡ false → gate g e ≡ g
  gate-failed g e h = if_sound-failed g.fault h (λ k. enter_with (fault_of e) e k.state) g

  -- However many follow.
  fold-failed : (g : Gated S) (l : List E) → no_fault g.fault ≡ false → foldl gate g l ≡ g
  fold-failed g [] h = refl
  fold-failed g (e ∷ l) h = ap (λ (k : Gated S). foldl gate k l) (gate-failed g e h) ∙ fold-failed g l h

  -- Without a fault an element is taken, or it is the first with one.
  enter_cases : (f : Fault) (e : E) (p : S)
      → ((f ≡ sound) × (enter_with f e p ≡ record { state = step p e; fault = sound })) ⊎ (no_fault (enter_with f e p).fault ≡ false)
  enter_cases sound e p = inl (refl, refl)
  enter_cases (undefined l c) e p = inr refl
  enter_cases (used_before l c) e p = inr refl
  enter_cases (lengths l c) e p = inr refl
  enter_cases index_variable e p = inr refl

  -- All are taken, or one has a fault.
  fold_cases : (p : S) (l : List E)
      → (foldl gate (record { state = p; fault = sound }) l ≡ record { state = foldl step p l; fault = sound })
      ⊎ (no_fault (foldl gate (record { state = p; fault = sound }) l).fault ≡ false)
  fold_cases p [] = inl refl
  fold_cases p (e ∷ l) = go (enter_cases (fault_of e) e p) (fold_cases (step p e) l)
    where
      next : Gated S
      next = enter_with (fault_of e) e p

      go : ((fault_of e ≡ sound) × (next ≡ record { state = step p e; fault = sound })) ⊎ (no_fault next.fault ≡ false)
          → (foldl gate (record { state = step p e; fault = sound }) l ≡ record { state = foldl step (step p e) l; fault = sound })
          ⊎ (no_fault (foldl gate (record { state = step p e; fault = sound }) l).fault ≡ false)
          → (foldl gate next l ≡ record { state = foldl step (step p e) l; fault = sound }) ⊎ (no_fault (foldl gate next l).fault ≡ false)
      go (inr h) ih = inr (ap (λ (k : Gated S). no_fault k.fault) (fold-failed next l h) ∙ h)
      go (inl q) (inl r) = inl (ap (λ (k : Gated S). foldl gate k l) q.1 ∙ r)
      go (inl q) (inr r) = inr (ap (λ (k : Gated S). no_fault (foldl gate k l).fault) q.1 ∙ r)

  -- Up to the first fault it is settled.
  pub gate-settled : Settled step → Settled gate
  gate-settled st g e l =
      ⊎_elim
      (λ (h : g.fault ≡ sound).
      let g₀ : Gated S = record { state = g.state; fault = sound } in
      let same : g₀ ≡ g = ap {B = Gated S} (λ (f : Fault). record { state = g.state; fault = f }) (sym h) in
      subst (λ (k : Gated S). gate (foldl gate (gate k e) l) e ≡ foldl gate (gate k e) l) same
      (begun (enter_cases (fault_of e) e g.state) (fold_cases (step g.state e) l)))
      (λ (h : no_fault g.fault ≡ false).
      subst (λ (k : Gated S). gate (foldl gate k l) e ≡ foldl gate k l) (sym (gate-failed g e h))
      (subst (λ (k : Gated S). gate k e ≡ k) (sym (fold-failed g l h)) (gate-failed g e h)))
      (failed_cases g.fault)
    where
      p : S
      p = g.state

      next : Gated S
      next = enter_with (fault_of e) e p

      after : Gated S
      after = record { state = step p e; fault = sound }

      begun : ((fault_of e ≡ sound) × (next ≡ after)) ⊎ (no_fault next.fault ≡ false)
          → (foldl gate after l ≡ record { state = foldl step (step p e) l; fault = sound }) ⊎ (no_fault (foldl gate after l).fault ≡ false)
          → gate (foldl gate next l) e ≡ foldl gate next l
      begun (inr h) r =
          subst (λ (k : Gated S). gate k e ≡ k) (sym (fold-failed next l h)) (gate-failed next e h)
      begun (inl q) (inr r) =
          subst (λ (k : Gated S). gate (foldl gate k l) e ≡ foldl gate k l) (sym q.1) (gate-failed (foldl gate after l) e r)
      begun (inl q) (inl r) =
          let end : Gated S = record { state = foldl step (step p e) l; fault = sound } in
          let still : gate end e ≡ end =
          ap (λ (f : Fault). enter_with f e (foldl step (step p e) l)) q.0
          ∙ ap {B = Gated S} (λ (t : S). record { state = t; fault = sound }) (st p e l) in
          subst (λ (k : Gated S). gate (foldl gate k l) e ≡ foldl gate k l) (sym q.1)
          (subst (λ (k : Gated S). gate k e ≡ k) (sym r) still)
