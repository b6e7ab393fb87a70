-- Laws of `Propagated`.
use mathlib.Core.Path.{◌≡◌, refl, sym, ap, ap₂, ◌∙◌}
use mathlib.Core.Bool.{Bool, true, false, ◌||◌}
use mathlib.Core.List.{List, [], ◌∷◌, foldl}
use Prim.Native.Nat.{ℕ}
use lib.Dec.{eqb}
use Rattle.base.specs.Lists.{elem, is_some}
use Rattle.base.specs.Sets.{member}
use Rattle.names.specs.Inner.Sets.{Union}
use Rattle.names.specs.Inner.Names.{Names}
use Rattle.scope.specs.Scopes.{NameSet, contains, insert, Span, span_in, owns, add_input, use_input}
use Rattle.scope.specs.Scopes as spec
use Rattle.scope_state.specs.declared.Scope.{Scope}
use Rattle.scope_state.specs.Inner.Agrees.{WithFlag}
use Rattle.definition_comprs.specs.Inner.Propagated.{Propagated}

-- The inputs of s and the names on a list are those of r, and all else is the same.
pub record JoinedInputs (s : spec.Scope) (l : List ℕ) (r : spec.Scope) : Type 0 where
  pub locals : r.locals ≡ s.locals
  pub unscoped : r.unscoped ≡ s.unscoped
  pub inputs : (x : ℕ) → contains r.inputs x ≡ (elem x l || contains s.inputs x)
  pub flag : r.uses_input ≡ s.uses_input

later : (p q m : Bool) → (p || (q || m)) ≡ ((q || p) || m)
later true true m = refl
later true false m = refl
later false true m = refl
later false false m = refl

pub inputs_joined : (l : List ℕ) (s : spec.Scope) → JoinedInputs s l (foldl add_input s l)
unfolding add_input contains insert
inputs_joined [] s = record { locals = refl; unscoped = refl; inputs = λ x. refl; flag = refl }
inputs_joined (y ∷ l) s =
    let h = inputs_joined l (add_input s y) in
    record {
      locals = h.locals;
      unscoped = h.unscoped;
      inputs = λ x. h.inputs x ∙ later (elem x l) (eqb x y) (s.inputs x);
      flag = h.flag;
    }

pub joined_owns : (s : spec.Scope) (l : List ℕ) (r : spec.Scope) → JoinedInputs s l r → (x : ℕ) → owns r x ≡ owns s x
unfolding owns
joined_owns s l r j x =
    ap₂ (λ (a : List Span) (b : NameSet). is_some (span_in a x) || contains b x) j.locals j.unscoped

pub propagated : (k : Scope) (uses : Bool) (names : Names) (f : Scope) → WithFlag k uses f → (u : Names)
    → Union f.inputs.words names.words u.words
    → Propagated k uses names (record { locals = f.locals; unscoped = f.unscoped; inputs = u; uses = f.uses })
propagated k uses names f flagged u union s a l has =
    let b = flagged s a in
    let j = inputs_joined l (use_input uses s) in
    record {
      locals = λ x. ap (λ (m : List Span). is_some (span_in m x)) j.locals ∙ b.locals x;
      unscoped = λ x. ap (λ (m : NameSet). contains m x) j.unscoped ∙ b.unscoped x;
      inputs = λ x.
          j.inputs x ∙ ap₂ ◌||◌ (has.has x) (b.inputs x) ∙ swap (member names.words x) (member f.inputs.words x) ∙ sym (union.has x);
      flag = j.flag ∙ b.flag;
    }
  where
    swap : (p q : Bool) → (p || q) ≡ (q || p)
    swap true true = refl
    swap true false = refl
    swap false true = refl
    swap false false = refl
