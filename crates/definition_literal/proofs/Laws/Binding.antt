-- Laws of `Binding`.
use mathlib.Core.Path.{◌≡◌, refl, sym, ap, ap₂, ◌∙◌, subst}
use mathlib.Core.Bool.{Bool, true, false, ◌||◌, or_assoc, or_comm}
use mathlib.Core.List.{List, [], ◌∷◌, foldl}
use Prim.Native.Nat.{ℕ}
use lib.Dec.{eqb}
use Rattle.base.proofs.Laws.Truth.{not-both, or_left_comm}
use Rattle.base.specs.Lists.{elem, is_some}
use Rattle.base.specs.Sets.{member}
use Rattle.names.specs.Inner.Sets.{Union}
use Rattle.names.specs.Inner.Names.{Names}
use Rattle.scope.specs.Scopes.{NameSet, contains, insert, Span, span_in, add_unscoped}
use Rattle.scope.specs.Scopes as spec
use Rattle.scope_state.specs.declared.Scope.{Scope}
use Rattle.scope_state.proofs.Laws.Agrees.{opened_rest}
use Rattle.scope_state.specs.Inner.Spans.{Agrees}
use Rattle.definition_walk.specs.Inner.Own.{Holds}
use Rattle.definition_state.specs.declared.Progress.{Progress}
use Rattle.definition_state.specs.Inner.Faults.{is_sound}
use Rattle.definition_state.specs.Inner.Frames.{scoped}
use Rattle.definition_literal.specs.Inner.Binding.{Joined, Bound}

-- The names are unscoped besides.
fold-unscoped : (l : List ℕ) (s : spec.Scope) (x : ℕ) → contains (foldl add_unscoped s l).unscoped x ≡ (elem x l || contains s.unscoped x)
unfolding add_unscoped contains insert
fold-unscoped [] s x = refl
fold-unscoped (y ∷ l) s x =
    fold-unscoped l (add_unscoped s y) x ∙ or_left_comm (elem x l) (eqb x y) (s.unscoped x)
    ∙ sym (or_assoc (eqb x y) (elem x l) (s.unscoped x))

module _ (k : Scope) (extras : Names) where
  pub joined : (ws : List ℕ) → Union k.unscoped.words extras.words ws
      → Joined k extras (record { locals = k.locals; unscoped = record { words = ws }; inputs = k.inputs; uses = k.uses })
  joined ws u s l a h = record {
    locals = λ x. ap (λ (spans : List Span). is_some (span_in spans x)) (opened_rest l s).locals ∙ a.locals x;
    unscoped = λ x.
        fold-unscoped l s x ∙ ap₂ ◌||◌ (h.has x) (a.unscoped x) ∙ or_comm (member extras.words x) (member k.unscoped.words x)
        ∙ sym (u.has x);
    inputs = λ x. ap (λ (f : NameSet). contains f x) (opened_rest l s).inputs ∙ a.inputs x;
    flag = (opened_rest l s).flag ∙ a.flag;
  }

  -- The locals stand where they stood.
  joined_agrees : (r : Scope) → Joined k extras r → (spans : List ℕ) (s : spec.Scope) (l : List ℕ) → Agrees k spans s → Holds extras l
      → Agrees r spans (foldl add_unscoped s l)
  joined_agrees r j spans s l a h = record {
    sets = j s l a.sets h;
    placed = λ x p is. a.placed x p (sym (ap (λ (found : List Span). span_in found x) (opened_rest l s).locals) ∙ is);
  }

module _ (p : Progress) (extras : Names) where
  module _ (b : Bool) (is : b ≡ is_sound p.fault) where
    pub bound-fault : b ≡ false → Bound p extras p
    bound-fault n = record {
      count = refl;
      fault = refl;
      wide = refl;
      same = λ e. refl;
      sets = λ e. absurd (not-both e (sym is ∙ n));
      agrees = λ e. absurd (not-both e (sym is ∙ n));
    }

    pub bound-sound : b ≡ true → (k : Scope) → Joined p.scope extras k → (r : Progress) → r ≡ scoped p k → Bound p extras r
    bound-sound y k j r e = subst (Bound p extras) (sym e) (record {
      count = refl;
      fault = refl;
      wide = refl;
      same = λ n. absurd (not-both (sym is ∙ y) n);
      sets = λ q. j;
      agrees = λ q. joined_agrees p.scope extras k j;
    })
