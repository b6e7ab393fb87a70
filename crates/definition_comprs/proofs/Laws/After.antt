-- Laws of `After`.
use mathlib.Core.Path.{◌≡◌, refl, sym, ap, ◌∙◌, subst}
use mathlib.Core.Bool.{true, false}
use mathlib.Core.List.{List}
use mathlib.Core.Logic.{◌⊎◌, inl, inr}
use Prim.Native.Nat.{ℕ}
use Rattle.base.proofs.Laws.Truth.{not-both}
use Rattle.std.specs.Prelude.{Option}
use Rattle.sheet.specs.declared.Row.{Row}
use Rattle.sheet.specs.Sheet.{Sheet}
use Rattle.sheet.specs.Kinds.{is_compr}
use Rattle.scope.specs.Trees.{Tree}
use Rattle.definition.specs.States.{State, Way}
use Rattle.definition.specs.Comprs.{propagate, use_compr}
use Rattle.definition_once.specs.Inner.OnceWay.{once_way}
use Rattle.definition_state.specs.declared.Fault.{Fault}
use Rattle.definition_state.specs.declared.Progress.{Progress}
use Rattle.definition_state.specs.Inner.Faults.{is_sound, meaning}
use Rattle.definition_state.specs.Inner.Frames.{with_fault, Agree}
use Rattle.definition_state.proofs.Laws.Steps.{guarded_when_faulty}
use Rattle.definition_comprs.specs.Inner.Rising.{rising, Risen}
use Rattle.definition_comprs.specs.Inner.After.{AfterCompr}

-- ---- after a fault

faulty-rises : (sheet : Sheet) (way : Way) (f : Option Fault) → is_sound f ≡ false → (s : State) → meaning f ≡ s.run.fault → (e : Tree) → rising sheet way e s ≡ s
faulty-rises sheet way f h s m e = rw (guarded_when_faulty (λ t. propagate sheet way t.scope e t) s f m h) (guarded_when_faulty (use_compr sheet way e) s f m h)

-- ---- the ways out

module _ (w : Row) (work : List ℕ) (p : Progress) (fault : Option Fault) (ws : List ℕ) where
  -- Not asked.
  pub not-asked : (is_compr w ≡ false) ⊎ (is_sound p.fault ≡ false) → AfterCompr w work p fault ws p ws
  not-asked f = record {
    count = refl;
    wide = refl;
    idle = λ h. (refl, refl);
    rises = λ c s. absurd (go f c s);
  }
    where
      go : (is_compr w ≡ false) ⊎ (is_sound p.fault ≡ false) → is_compr w ≡ true → is_sound p.fault ≡ true → ⊥
      go (inl n) c s = not-both c n
      go (inr n) c s = not-both s n

  module _ (c : is_compr w ≡ true) (s : is_sound p.fault ≡ true) where
    asked : {A : Type 0} → (is_compr w ≡ false) ⊎ (is_sound p.fault ≡ false) → A
    asked (inl f) = absurd (not-both c f)
    asked (inr f) = absurd (not-both s f)

    -- The analysis failed.
    pub fails : is_sound fault ≡ false → (r : Progress) → r ≡ with_fault p fault → AfterCompr w work p fault ws r ws
    fails bad r is = record {
      count = ap (λ (q : Progress). q.count) is;
      wide = ap (λ (q : Progress). q.width) is;
      idle = asked;
      rises = λ c' s' sheet nested parents t spans st e at h.
          rw (is, faulty-rises sheet (once_way sheet nested parents) fault bad st h.fault e) h;
    }

    -- Or it did not.
    pub rose : is_sound fault ≡ true → (q : Progress) → q ≡ with_fault p fault → (r : Progress) (rs : List ℕ) → Risen w work q ws r rs
        → AfterCompr w work p fault ws r rs
    rose good q is r rs h = record {
      count = h.count ∙ ap (λ (x : Progress). x.count) is;
      wide = h.wide ∙ ap (λ (x : Progress). x.width) is;
      idle = asked;
      rises = λ c' s' sheet nested parents t spans st e at a.
          h.rises (ap (λ (x : Progress). is_sound x.fault) is ∙ good) sheet nested parents t spans st e at (subst (λ (x : Progress). Agree t spans x ws work st) (sym is) a);
    }
