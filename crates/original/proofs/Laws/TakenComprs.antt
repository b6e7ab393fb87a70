-- What the comprehensions of a query change of its state, one after the other: one that was taken before changes nothing.
use mathlib.Core.Path.{◌≡◌, refl, sym, ap, ◌∙◌, subst, fun_ext}
use mathlib.Core.Bool.{Bool, true, false, not, ◌||◌, or_comm}
use mathlib.Core.List.{List, [], ◌∷◌, map, foldl}
use mathlib.Core.Logic.{◌⊎◌, inl, inr}
use Prim.Native.Nat.{ℕ}
use lib.Dec.{eqb}
use borrow.Author.Tests.{eqb-true, eq-eqb}
use Rattle.base.proofs.Laws.Truth.{bool_cases, or_left, or_right}
use Rattle.base.specs.Lists.{filter}
use Rattle.scope.specs.Trees.{Tree, row_of}
use Rattle.scope.specs.Scopes.{NameSet, insert, elements, Scope, Span}
use Rattle.definition.specs.Uses.{add_first_use}
use Rattle.original.specs.Inner.Settled.{Settled}
use Rattle.original.proofs.Laws.Settled.{settled-parts}
use Rattle.original.proofs.Laws.Takers.{any_settled, first_uses-settled}

-- ---- inserting is settled

-- A set that has a name is not changed by it.
insert-has : (s : NameSet) (x : ℕ) → s x ≡ true → insert s x ≡ s
unfolding insert
insert-has s x h = fun_ext (λ y. go y (bool_cases (eqb y x)))
  where
    go : (y : ℕ) → (eqb y x ≡ true) ⊎ (eqb y x ≡ false) → (eqb y x || s y) ≡ s y
    go y (inl e) = ap (λ (b : Bool). b || s y) e ∙ sym (ap s (eqb-true y x e) ∙ h)
    go y (inr e) = ap (λ (b : Bool). b || s y) e

-- So a name that was inserted before changes nothing.
insert-settled : Settled insert
unfolding insert
insert-settled s x l = insert-has (foldl insert (insert s x) l) x (kept l (insert s x) (or_left (eqb x x) (s x) (eq-eqb x x refl)))
  where
    kept : (k : List ℕ) (t : NameSet) → t x ≡ true → foldl insert t k x ≡ true
    kept [] t h = h
    kept (y ∷ k) t h = kept k (insert t y) (or_right (eqb x y) (t x) h)

-- ---- what comprehensions change

-- The parts of a query's state that its comprehensions change.
pub record TakenPart : Type 0 where
  pub inputs : NameSet
  pub uses_input : Bool
  pub first_uses : List Span

-- The uses of names where the comprehension e stands.
abbrev pub spans_at : Tree → List ℕ → List Span
spans_at e xs = map (λ x. record { name = x; line = (row_of e).line; col = (row_of e).col }) xs

module _ (own : ℕ → Bool) (found : Tree → Scope) where
  -- A comprehension whose query has a scope that was found: as `process_comprs` takes it.
  abbrev pub take_compr : TakenPart → Tree → TakenPart
  take_compr p e = record {
    inputs = foldl insert p.inputs (filter (λ x. not (own x)) (elements (found e).inputs));
    uses_input = (found e).uses_input || p.uses_input;
    first_uses = foldl add_first_use p.first_uses (spans_at e (filter own (elements (found e).inputs)));
  }

  -- Part by part.
  take_compr-parts : (p : TakenPart) (l : List Tree)
      → foldl take_compr p l
      ≡ record {
        inputs = foldl (λ s e. foldl insert s (filter (λ x. not (own x)) (elements (found e).inputs))) p.inputs l;
        uses_input = foldl (λ b e. (found e).uses_input || b) p.uses_input l;
        first_uses = foldl (λ k e. foldl add_first_use k (spans_at e (filter own (elements (found e).inputs)))) p.first_uses l;
      }
  take_compr-parts p [] = refl
  take_compr-parts p (e ∷ l) = take_compr-parts (take_compr p e) l

  -- A comprehension that was taken before changes nothing.
  pub take_compr-settled : Settled take_compr
  take_compr-settled p e l =
      let flags : Settled (λ (b : Bool) (d : Tree). (found d).uses_input || b) =
      subst (λ (g : Bool → Tree → Bool). Settled g) (fun_ext (λ b. fun_ext (λ d. or_comm b (found d).uses_input)))
      (any_settled (λ (d : Tree). (found d).uses_input)) in
      let names : Settled (λ (s : NameSet) (d : Tree). foldl insert s (filter (λ x. not (own x)) (elements (found d).inputs))) =
      settled-parts insert (λ (d : Tree). filter (λ x. not (own x)) (elements (found d).inputs)) insert-settled in
      let spans : Settled (λ (k : List Span) (d : Tree). foldl add_first_use k (spans_at d (filter own (elements (found d).inputs)))) =
      settled-parts add_first_use (λ (d : Tree). spans_at d (filter own (elements (found d).inputs))) first_uses-settled in
      subst (λ (k : TakenPart). take_compr k e ≡ k) (sym (take_compr-parts (take_compr p e) l))
      (λ i.
      record {
        inputs = names p.inputs e l i;
        uses_input = flags p.uses_input e l i;
        first_uses = spans p.first_uses e l i;
      })
