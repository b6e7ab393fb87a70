-- The scope that outputs stand in owns what the query's scope owns.
use mathlib.Core.Path.{◌≡◌, refl, sym}
use mathlib.Core.Bool.{true, false}
use mathlib.Core.List.{List, [], ◌∷◌, map, foldl}
use mathlib.Core.Logic.{◌⊎◌, inl, inr, ⊎_elim}
use Prim.Native.Nat.{ℕ}
use lib.Dec.{eqb}
use borrow.Author.Tests.{eq-eqb}
use Rattle.base.proofs.Laws.Truth.{bool_cases, not-both, or_left}
use Rattle.base.specs.Lists.{is_some}
use Rattle.scope.specs.Scopes.{contains, Span, Scope, span_in, is_local, owns, add_unscoped}
use Rattle.scope.proofs.Laws.Below.{unscoped-owns}
use Rattle.definition.specs.Queries.{output_scope}

-- ---- the scope of outputs

-- An own name of a scope with more unscoped names is one of these or was own before.
more-owns : (spans : List Span) (sc : Scope) (x : ℕ) → owns (foldl add_unscoped sc (map (λ (p : Span). p.name) spans)) x ≡ true
    → (is_some (span_in spans x) ≡ true) ⊎ (owns sc x ≡ true)
more-owns [] sc x h = inr h
more-owns (p ∷ spans) sc x h = ⊎_elim (λ (e : is_some (span_in spans x) ≡ true). inl (later (bool_cases (eqb p.name x)) e))
    (λ (e : owns (add_unscoped sc p.name) x ≡ true).
    ⊎_elim (λ (q : x ≡ p.name). inl (first (eq-eqb p.name x (sym q)))) (λ (q : owns sc x ≡ true). inr q) (unscoped-owns sc p.name x e))
    (more-owns spans (add_unscoped sc p.name) x h)
  where
    first : eqb p.name x ≡ true → is_some (span_in (p ∷ spans) x) ≡ true
    first e = rw e refl

    later : (eqb p.name x ≡ true) ⊎ (eqb p.name x ≡ false) → is_some (span_in spans x) ≡ true → is_some (span_in (p ∷ spans) x) ≡ true
    later (inl e) h = first e
    later (inr e) h = rw e h

-- The scope that outputs stand in owns what the query's scope owns.
pub output_owns : (sc : Scope) (x : ℕ) → owns sc x ≡ false → owns (output_scope sc) x ≡ false
unfolding output_scope owns
output_owns sc x n =
    ⊎_elim
    (λ (e : owns (output_scope sc) x ≡ true).
    ⊎_elim (λ (l : is_local sc x ≡ true). absurd (not-both (or_left (is_local sc x) (contains sc.unscoped x) l) n))
    (λ (o : owns sc x ≡ true). absurd (not-both o n)) (more-owns sc.locals sc x e))
    (λ (e : owns (output_scope sc) x ≡ false). e) (bool_cases (owns (output_scope sc) x))
