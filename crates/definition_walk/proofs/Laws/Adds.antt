-- Laws of `Adds`.
use mathlib.Core.Path.{◌≡◌, refl, sym, ap, ap₂, ◌∙◌}
use mathlib.Core.Bool.{Bool, true, false, ◌||◌, or-true, or-false}
use mathlib.Core.List.{List, [], ◌∷◌, ◌++◌}
use Prim.Native.Nat.{ℕ}
use lib.Dec.{eqb}
use Rattle.base.specs.Lists.{elem}
use Rattle.base.proofs.Laws.Members.{elem-append}
use Rattle.base.specs.Sets.{member}
use Rattle.names.specs.Inner.Sets.{Empty, Inserted, Union}
use Rattle.names.specs.Inner.Names.{Names}
use Rattle.definition_walk.specs.Inner.Own.{Holds}
use Rattle.definition_walk.specs.Inner.Adds.{Adds}

pub adds_none : (a : Names) → Adds a [] a
adds_none a = record { has = λ x. refl }

swap : (p q m : Bool) → (q || (p || m)) ≡ ((p || q) || m)
swap true true m = refl
swap true false m = refl
swap false true m = refl
swap false false m = refl

pub adds_then : (a b c : Names) (l k : List ℕ) → Adds a l b → Adds b k c → Adds a (l ++ k) c
adds_then a b c l k h g = record {
  has = λ x.
      g.has x ∙ ap (λ (m : Bool). elem x k || m) (h.has x) ∙ swap (elem x l) (elem x k) (member a.words x)
      ∙ ap (λ (m : Bool). m || member a.words x) (sym (elem-append x l k));
}

pub adds_one : (a : Names) (x : ℕ) (b : Names) → Inserted a.words x b.words → Adds a (x ∷ []) b
adds_one a x b put = record {
  has = λ y. put.has y ∙ one (eqb y x) (member a.words y);
}
  where
    one : (p m : Bool) → (p || m) ≡ ((p || false) || m)
    one true m = refl
    one false m = refl

-- The set is joined with one that holds a list.
pub adds_union : (a b c d : Names) (l k : List ℕ) → Adds a l b → Holds c k → Union b.words c.words d.words → Adds a (l ++ k) d
adds_union a b c d l k h e u = record {
  has = λ x.
      u.has x ∙ ap₂ ◌||◌ (h.has x) (sym (e.has x)) ∙ last (elem x l) (elem x k) (member a.words x)
      ∙ ap (λ (m : Bool). m || member a.words x) (sym (elem-append x l k));
}
  where
    last : (p q m : Bool) → ((p || m) || q) ≡ ((p || q) || m)
    last true true m = refl
    last true false m = refl
    last false true m = or-true m
    last false false m = or-false m

-- What came to no names is held.
pub adds_holds : (a b : Names) (l : List ℕ) → Empty a.words → Adds a l b → Holds b l
adds_holds a b l clear h = record { has = λ x. sym (h.has x ∙ ap (λ (m : Bool). elem x l || m) (clear.has x) ∙ or-false (elem x l)) }
