-- Laws of `Frames`.
use mathlib.Core.Path.{◌≡◌, refl, sym, ap, ◌∙◌, subst}
use mathlib.Core.List.{List}
use Prim.Native.Nat.{ℕ, ◌*◌}
use native.Mathlib.Nat.{mul-le-mul_left}
use native.Mathlib.Omega.{arith}
use Rattle.names_width.specs.declared.Width.{Width}
use Rattle.names_width.specs.Inner.Widths.{row_words}
use Rattle.definition.specs.States.{State}
use Rattle.definition_state.specs.declared.Progress.{Progress}
use Rattle.definition_state.specs.Inner.Frames.{Grown, Runs, Agree}

module _ (t : List ℕ) where
  -- One after the other.
  pub grown_then : (p q r : Progress) (u v w : List ℕ) → Grown t p u q v → Grown t q v r w → Grown t p u r w
  grown_then p q r u v w a b = record {
    long = b.long ∙ a.long;
    up = omega (arith, a.up, b.up);
    wide = b.wide ∙ a.wide;
    before = λ j l.
        b.before j (omega (arith, mul-le-mul_left (row_words p.width) a.up, ap (λ (x : Width). row_words x * q.count) a.wide)) ∙ a.before j l;
  }

  pub runs_then : (f g : State → State) (p q r : Progress) (fs gs hs u v w : List ℕ) → Runs t f p fs u q gs v → Runs t g q gs v r hs w
      → Runs t (λ s. g (f s)) p fs u r hs w
  runs_then f g p q r fs gs hs u v w a b = record {
    grown = grown_then p q r u v w a.grown b.grown;
    agrees = λ spans s h. b.agrees spans (f s) (a.agrees spans s h);
  }

  -- Nothing is done where f changes nothing.
  pub runs_none : (f : State → State) → ((s : State) → f s ≡ s) → (p : Progress) (fs w : List ℕ) → Runs t f p fs w p fs w
  runs_none f same p fs w = record {
    grown = record { long = refl; up = omega arith; wide = refl; before = λ j l. refl };
    agrees = λ spans s h. subst (Agree t spans p fs w) (sym (same s)) h;
  }
