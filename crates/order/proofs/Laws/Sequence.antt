-- Laws of `Sequence`.
use mathlib.Core.Path.{◌≡◌, refl, sym, ap, ◌∙◌}
use mathlib.Core.Bool.{Bool, true, ◌||◌, or-false}
use mathlib.Core.List.Memᴰ
use mathlib.Core.List.{List, [], ◌∷◌, ◌++◌, map, Memᴰ}
use mathlib.Core.Logic.{⊎_elim}
use Prim.Native.Nat.{ℕ}
use lib.Dec.{eqb}
use lib.ListN.{length, get_or}
use borrow.Author.Tests.{eqb-true}
use Rattle.base.proofs.Laws.Truth.{and_intro, and_left, and_right, or_left, or_right, or_cases, or_left_comm}
use Rattle.base.specs.Lists.{all}
use Rattle.base.proofs.Laws.Members.{elem_mem, mem_elem, get_d_mem, mem_get_d}
use Rattle.base.proofs.Laws.Subsets.{◌⊆◌, ⊆-refl, all_mono, or_mono}
use Rattle.order.specs.Walk.{known, takeable, walkable}
use Rattle.order.proofs.Laws.Laws.{takeable-parts, known-snoc}
use Rattle.order.proofs.Laws.Walkable.{walk-walkable}
use Rattle.order.proofs.Laws.Walked.{walked-below}
use Rattle.order.specs.Definitions.{Definition, no_definition, resolvable, defined_at, resolved, resolves}
use Rattle.order.proofs.Laws.Resolving.{resolvable_from, NamesClosed, resolved-walked, resolves-all, closed_resolves}
use Rattle.order.specs.Inner.Sequence.{from_earlier, InSequence}

module _ (K : ℕ → Bool) (defs : List Definition) where
  -- ---- what the passes resolve, in their sequence

  -- The definition at a place.
  abbrev at : ℕ → Definition
  at j = get_or defs j no_definition

  -- The names known when the definitions at the places o are resolved.
  abbrev known_after : List ℕ → ℕ → Bool
  known_after o x = K x || known (resolvable K defs) (defined_at K defs) o x

  -- They grow by the name of the definition resolved last.
  known_after-snoc : (o : List ℕ) (j x : ℕ) → known_after (o ++ (j ∷ [])) x ≡ (eqb (at j).var x || known_after o x)
  known_after-snoc o j x =
      ap (λ (b : Bool). K x || b) (known-snoc (resolvable K defs) (defined_at K defs) o j x)
      ∙ or_left_comm (K x) (eqb (at j).var x) (known (resolvable K defs) (defined_at K defs) o x)

  -- A walk takes definitions in such a sequence.
  walkable-earlier : (M : ℕ → Bool) (o p : List ℕ) → known_after o ⊆ M
      → walkable (resolvable K defs) (defined_at K defs) (length defs) o p ≡ true → from_earlier M (map at p) ≡ true
  walkable-earlier M o [] sub w = refl
  walkable-earlier M o (j ∷ p) sub w =
      let t = takeable-parts (resolvable K defs) (defined_at K defs) (length defs) o j (and_left _ _ w) in
      and_intro _ _ (all_mono sub (at j).used t.is_ready)
      (walkable-earlier (λ x. eqb (at j).var x || M x) (o ++ (j ∷ [])) p
      (λ x h. or_mono (⊆-refl (λ y. eqb (at j).var y)) sub x (sym (known_after-snoc o j x) ∙ h))
      (and_right (takeable (resolvable K defs) (defined_at K defs) (length defs) o j) _ w))

  -- If the passes resolve all, their own order is a sequence.
  pub resolves-sequence : resolves K defs ≡ true → InSequence K defs
  resolves-sequence r =
      let o = resolved K defs in
      let walked = resolved-walked K defs in
      record {
        sequence = map at o;
        there = λ d m.
            let place = mem_get_d defs no_definition m in
            Memᴰ.cast (sym place.2) (Memᴰ.map at (elem_mem place.0 o (resolves-all K defs r place.0 place.1)));
        only = λ d m.
            let place = Memᴰ.of_map at o m in
            Memᴰ.cast (sym place.2) (get_d_mem defs place.0 no_definition (walked-below walked place.0 (mem_elem o place.1)));
        resolve =
            walkable-earlier K [] o (λ x h. rw or-false at h)
            (rw walked.along (walk-walkable (resolvable K defs) (defined_at K defs) (length defs) walked.picks));
      }

  -- ---- what resolves in some sequence, whichever it is

  -- Each of its definitions can be resolved from every closed set of names.
  earlier-resolvable : (L : ℕ → Bool) → NamesClosed K defs L → (s : List Definition) → ((d : Definition) → Memᴰ d s → Memᴰ d defs)
      → (M : ℕ → Bool) → M ⊆ (λ x. K x || L x) → from_earlier M s ≡ true
      → (d : Definition) → Memᴰ d s → resolvable_from K L d ≡ true
  earlier-resolvable L closed [] only M sub f d m = absurd (Memᴰ.not-nil m)
  earlier-resolvable L closed (e ∷ s) only M sub f d m =
      ⊎_elim (λ (q : d ≡ e). rw q now)
      (earlier-resolvable L closed s (λ c t. only c (Memᴰ.tail t)) (λ x. eqb e.var x || M x) grown
      (and_right (all M e.used) _ f) d)
      (Memᴰ.cases_cons m)
    where
      now : resolvable_from K L e ≡ true
      now = all_mono sub e.used (and_left _ _ f)

      grown : (λ x. eqb e.var x || M x) ⊆ (λ x. K x || L x)
      grown x h =
          ⊎_elim (λ (q : eqb e.var x ≡ true).
          or_right (K x) _ (ap L (sym (eqb-true _ x q)) ∙ closed e (only e (Memᴰ.head refl)) now))
          (sub x) (or_cases _ _ h)

  -- If there is a sequence, the passes resolve all.
  pub sequence-resolves : InSequence K defs → resolves K defs ≡ true
  sequence-resolves s =
      closed_resolves K defs (λ L closed d m.
      earlier-resolvable L closed s.sequence s.only K (λ x k. or_left _ _ k) s.resolve d (s.there d m))
