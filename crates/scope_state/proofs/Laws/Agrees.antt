-- Laws of `Agrees`.
use mathlib.Core.Path.{◌≡◌, refl, sym, ap, ap₂, ◌∙◌}
use mathlib.Core.Bool.{Bool, true, false, not, ◌||◌, ◌&&◌, and-true, and-false, or-true, cond}
use mathlib.Core.List.{List, [], ◌∷◌, map, foldl}
use mathlib.Core.Logic.{◌⊎◌, inl, inr}
use mathlib.Core.Option.{some}
use Prim.Native.Nat.{ℕ}
use lib.Dec.{eqb}
use Rattle.names.specs.Inner.Sets.{Empty, Inserted, Union, Difference}
use Rattle.base.proofs.Laws.Truth.{bool_cases, eqb_sym}
use Rattle.base.specs.Lists.{is_some}
use Rattle.sheet.specs.declared.Row.{Row}
use Rattle.scope.specs.Scopes.{NameSet, contains, insert, remove, empty, add_local, add_unscoped, add_input, use_input, remove_all, remove_shadowed, is_local}
use Rattle.scope.specs.Scopes as spec
use Rattle.scope_state.specs.declared.Scope.{Scope}
use Rattle.scope_state.specs.Inner.Agrees.{WithLocal, WithUnscoped, WithInput, WithFlag, WithoutLocals, Opened, NoNames}

-- ---- what holds of the definitions' additions

local_has : (s : spec.Scope) (w : Row) (x : ℕ) → is_local (add_local s w) x ≡ (eqb x w.name || is_local s x)
unfolding add_local
local_has s w x = go (bool_cases (eqb w.name x)) (eqb_sym w.name x)
  where
    go : (eqb w.name x ≡ true) ⊎ (eqb w.name x ≡ false) → eqb w.name x ≡ eqb x w.name
        → is_some (cond (eqb w.name x) (some (spec.span_of w)) (spec.span_in s.locals x)) ≡ (eqb x w.name || is_local s x)
    go (inl p) e = rw (p, sym e ∙ p)
    go (inr p) e = rw (p, sym e ∙ p)

-- The names of spans leave a set.
shadowed : (spans : List spec.Span) (names : NameSet) (x : ℕ) → contains (remove_all names spans) x ≡ (contains names x && not (is_some (spec.span_in spans x)))
unfolding remove_all contains remove
shadowed [] names x = sym (and-true (names x))
shadowed (p ∷ spans) names x = shadowed spans (remove names p.name) x ∙ go (bool_cases (eqb p.name x)) (eqb_sym p.name x)
  where
    go : (eqb p.name x ≡ true) ⊎ (eqb p.name x ≡ false) → eqb p.name x ≡ eqb x p.name
        → ((not (eqb x p.name) && names x) && not (is_some (spec.span_in spans x)))
        ≡ (names x && not (is_some (cond (eqb p.name x) (some p) (spec.span_in spans x))))
    go (inl e) is = rw (sym is, e) (sym (and-false (names x)))
    go (inr e) is = rw (sym is, e)

-- The names of spans are unscoped.
opened_has : (spans : List spec.Span) (s : spec.Scope) (x : ℕ)
    → contains (foldl add_unscoped s (map (λ (p : spec.Span). p.name) spans)).unscoped x ≡ (is_some (spec.span_in spans x) || contains s.unscoped x)
unfolding add_unscoped contains insert
opened_has [] s x = refl
opened_has (p ∷ spans) s x = opened_has spans (add_unscoped s p.name) x ∙ go (bool_cases (eqb p.name x)) (eqb_sym p.name x)
  where
    go : (eqb p.name x ≡ true) ⊎ (eqb p.name x ≡ false) → eqb p.name x ≡ eqb x p.name
        → (is_some (spec.span_in spans x) || (eqb x p.name || s.unscoped x))
        ≡ (is_some (cond (eqb p.name x) (some p) (spec.span_in spans x)) || s.unscoped x)
    go (inl e) is = rw (sym is, e) (or-true (is_some (spec.span_in spans x)))
    go (inr e) is = rw (sym is, e)

-- And nothing else changes.
pub record Rest (s u : spec.Scope) : Type 0 where
  pub locals : u.locals ≡ s.locals
  pub inputs : u.inputs ≡ s.inputs
  pub flag : u.uses_input ≡ s.uses_input

pub opened_rest : (names : List ℕ) (s : spec.Scope) → Rest s (foldl add_unscoped s names)
unfolding add_unscoped
opened_rest [] s = record { locals = refl; inputs = refl; flag = refl }
opened_rest (x ∷ names) s =
    let h = opened_rest names (add_unscoped s x) in
    record { locals = h.locals; inputs = h.inputs; flag = h.flag }

-- ---- and so of the code's

module _ (k : Scope) where
  pub with_local : (l : List ℕ) (x : ℕ) → Inserted k.locals.words x l
      → WithLocal k x (record { locals = record { words = l }; unscoped = k.unscoped; inputs = k.inputs; uses = k.uses })
  unfolding add_local
  with_local l x put s w is a = record {
    locals = λ y. local_has s w y ∙ ap₂ (λ (n : ℕ) (b : Bool). eqb y n || b) is (a.locals y) ∙ sym (put.has y);
    unscoped = a.unscoped;
    inputs = a.inputs;
    flag = a.flag;
  }

  pub with-unscoped : (l : List ℕ) (x : ℕ) → Inserted k.unscoped.words x l
      → WithUnscoped k x (record { locals = k.locals; unscoped = record { words = l }; inputs = k.inputs; uses = k.uses })
  unfolding add_unscoped contains insert
  with-unscoped l x put s a = record {
    locals = a.locals;
    unscoped = λ y. ap (λ (b : Bool). eqb y x || b) (a.unscoped y) ∙ sym (put.has y);
    inputs = a.inputs;
    flag = a.flag;
  }

  pub with-input : (l : List ℕ) (x : ℕ) → Inserted k.inputs.words x l
      → WithInput k x (record { locals = k.locals; unscoped = k.unscoped; inputs = record { words = l }; uses = k.uses })
  unfolding add_input contains insert
  with-input l x put s a = record {
    locals = a.locals;
    unscoped = a.unscoped;
    inputs = λ y. ap (λ (b : Bool). eqb y x || b) (a.inputs y) ∙ sym (put.has y);
    flag = a.flag;
  }

  pub with-flag : (b f : Bool) → f ≡ (b || k.uses) → WithFlag k b (record { locals = k.locals; unscoped = k.unscoped; inputs = k.inputs; uses = f })
  unfolding use_input
  with-flag b f is s a = record {
    locals = a.locals;
    unscoped = a.unscoped;
    inputs = a.inputs;
    flag = ap (λ (u : Bool). b || u) a.flag ∙ sym is;
  }

  pub without_locals : (l m : List ℕ) → Difference k.unscoped.words k.locals.words l → Difference k.inputs.words k.locals.words m
      → WithoutLocals k (record { locals = k.locals; unscoped = record { words = l }; inputs = record { words = m }; uses = k.uses })
  unfolding remove_shadowed
  without_locals l m put-l put-m s a = record {
    locals = a.locals;
    unscoped = λ y. shadowed s.locals s.unscoped y ∙ ap₂ (λ (b c : Bool). b && not c) (a.unscoped y) (a.locals y) ∙ sym (put-l.has y);
    inputs = λ y. shadowed s.locals s.inputs y ∙ ap₂ (λ (b c : Bool). b && not c) (a.inputs y) (a.locals y) ∙ sym (put-m.has y);
    flag = a.flag;
  }

  pub scope_opened : (l : List ℕ) → Union k.locals.words k.unscoped.words l
      → Opened k (record { locals = k.locals; unscoped = record { words = l }; inputs = k.inputs; uses = k.uses })
  scope_opened l put s a =
      let rest = opened_rest (map (λ (p : spec.Span). p.name) s.locals) s in
      record {
        locals = λ y. ap (λ (spans : List spec.Span). is_some (spec.span_in spans y)) rest.locals ∙ a.locals y;
        unscoped = λ y. opened_has s.locals s y ∙ ap₂ (λ (b c : Bool). b || c) (a.locals y) (a.unscoped y) ∙ sym (put.has y);
        inputs = λ y. ap (λ (names : NameSet). contains names y) rest.inputs ∙ a.inputs y;
        flag = rest.flag ∙ a.flag;
      }

pub no_names : (l : List ℕ) → Empty l
    → NoNames (record { locals = record { words = l }; unscoped = record { words = l }; inputs = record { words = l }; uses = false })
unfolding empty contains
no_names l none = record {
  locals = λ y. sym (none.has y);
  unscoped = λ y. sym (none.has y);
  inputs = λ y. sym (none.has y);
  flag = refl;
}
