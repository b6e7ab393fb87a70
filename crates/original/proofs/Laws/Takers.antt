-- What is settled: a test asked of all, the first that passes a test, first uses, a list on which each stands once.
use mathlib.Core.Path.{◌≡◌, refl, sym, ◌∙◌}
use mathlib.Core.Bool.{Bool, true, false, cond, ◌||◌, or_assoc, or-false}
use mathlib.Core.List.{List, [], ◌∷◌, foldl}
use mathlib.Core.Option.{Option, none, some}
use mathlib.Core.Logic.{◌⊎◌, inl, inr}
use lib.Dec.{eqb}
use borrow.Author.Tests.{eq-eqb}
use Rattle.base.proofs.Laws.Truth.{bool_cases}
use Rattle.base.specs.Lists.{any, find, is_some}
use Rattle.scope.specs.Scopes.{Span, span_in}
use Rattle.definition.specs.Uses.{add_first_use}
use Rattle.original.proofs.Laws.Lists.{or_else, or_else-none}
use Rattle.original.specs.Inner.Settled.{Settled}
use Rattle.original.proofs.Laws.Settled.{settle}

module _ {A : Type 0} (p : A → Bool) where
  -- Did one pass the test?
  abbrev pub or_passes : Bool → A → Bool
  or_passes b x = b || p x

  -- It comes to `any`.
  pub foldl_any : (b : Bool) (l : List A) → foldl or_passes b l ≡ (b || any p l)
  foldl_any b [] = sym (or-false b)
  foldl_any b (x ∷ l) = foldl_any (b || p x) l ∙ or_assoc b (p x) (any p l)

  -- It is settled.
  pub any_settled : Settled or_passes
  any_settled b x l = rw (foldl_any (b || p x) l) (again b (p x) (any p l))
    where
      again : (a b c : Bool) → (((a || b) || c) || b) ≡ ((a || b) || c)
      again true b c = refl
      again false true c = refl
      again false false true = refl
      again false false false = refl

  -- The first that passes the test.
  abbrev pub or_found : Option A → A → Option A
  or_found o x = or_else o (cond (p x) (some x) none)

  -- One step of it.
  or_else_cond : (o : Option A) (x : A) (rest : Option A) (b : Bool)
      → or_else (or_else o (cond b (some x) none)) rest ≡ or_else o (cond b (some x) rest)
  or_else_cond none x rest true = refl
  or_else_cond none x rest false = refl
  or_else_cond (some y) x rest b = refl

  -- It comes to `find`.
  pub foldl_find : (o : Option A) (l : List A) → foldl or_found o l ≡ or_else o (find p l)
  foldl_find o [] = sym (or_else-none o)
  foldl_find o (x ∷ l) = foldl_find (or_found o x) l ∙ or_else_cond o x (find p l) (p x)

  -- It is settled.
  pub find-settled : Settled or_found
  find-settled o x l = rw (foldl_find (or_found o x) l) (again o (cond (p x) (some x) none) (find p l))
    where
      again : (a b c : Option A) → or_else (or_else (or_else a b) c) b ≡ or_else (or_else a b) c
      again (some y) b c = refl
      again none (some y) c = refl
      again none none none = refl
      again none none (some y) = refl

-- First uses.
pub first_uses-settled : Settled add_first_use
unfolding add_first_use
first_uses-settled = settle add_first_use (λ p l. is_some (span_in l p.name)) left kept still
  where
    left : (l : List Span) (p : Span) → is_some (span_in (add_first_use l p) p.name) ≡ true
    left l p = go (bool_cases (is_some (span_in l p.name)))
      where
        go : (is_some (span_in l p.name) ≡ true) ⊎ (is_some (span_in l p.name) ≡ false) → is_some (span_in (add_first_use l p) p.name) ≡ true
        go (inl e) = rw (e, e)
        go (inr e) = rw (e, eq-eqb p.name p.name refl)

    kept : (l : List Span) (p d : Span) → is_some (span_in l p.name) ≡ true → is_some (span_in (add_first_use l d) p.name) ≡ true
    kept l p d h = go (is_some (span_in l d.name))
      where
        more : (b : Bool) → is_some (cond b (some d) (span_in l p.name)) ≡ true
        more true = refl
        more false = h

        go : (b : Bool) → is_some (span_in (cond b l (d ∷ l)) p.name) ≡ true
        go true = h
        go false = more (eqb d.name p.name)

    still : (l : List Span) (p : Span) → is_some (span_in l p.name) ≡ true → add_first_use l p ≡ l
    still l p h = rw h
