-- Resolving, said without passes: by sets of names that the definitions close. It follows what resolving depends on: the names known and
-- the definitions on the list, and neither their order, nor repeats, nor how names are numbered.
use mathlib.Core.Path.{◌≡◌, refl, sym, ap, ◌∙◌}
use mathlib.Core.Bool.{Bool, true, ◌&&◌, ◌||◌}
use mathlib.Core.List.{List, [], Memᴰ}
use Prim.Native.Nat.{ℕ, suc, ◌<◌}
use native.Mathlib.Omega.{arith}
use lib.Dec.{ltb}
use lib.ListN.{length, get_or}
use borrow.Author.Tests.{ltb-true, lt-ltb, eqb-true, eq-eqb}
use Rattle.base.proofs.Laws.Truth.{bool_ext, and_intro, and_left, and_right}
use Rattle.base.specs.Lists.{all, elem, counted}
use Rattle.base.proofs.Laws.Ranges.{elem-counted}
use Rattle.base.proofs.Laws.Members.{get_d_mem, mem_get_d}
use Rattle.base.proofs.Laws.Subsets.{◌⊆◌, ⊆-refl, all_mono, or_mono}
use Rattle.order.specs.Walk.{known, walk, Ended}
use Rattle.order.specs.Inner.Count.{AddsUp}
use Rattle.order.proofs.Laws.Count.{nil_adds_up, long_has_all, all_is_long}
use Rattle.order.proofs.Laws.Walked.{Walked, walked_adds_up}
use Rattle.order.proofs.Laws.Reach.{Monotone, taken_reach, ended_closed}
use Rattle.order.proofs.Laws.Rounds.{Sweeps, rounds-ended, rounds-walked}
use Rattle.order.specs.Definitions.{Definition, of_statement, no_definition, resolvable, defined_at, resolved, resolves, some, ready}

-- Can d be resolved from the names in K and those in L?
abbrev pub resolvable_from : (ℕ → Bool) → (ℕ → Bool) → Definition → Bool
resolvable_from K L d = all (λ x. K x || L x) d.used

-- L has the name of each definition that can be resolved from K and L.
abbrev pub NamesClosed : (ℕ → Bool) → List Definition → (ℕ → Bool) → Type 0
NamesClosed K defs L = (d : Definition) → Memᴰ d defs → resolvable_from K L d ≡ true → L d.var ≡ true

-- Each definition can be resolved from K and whatever such L.
abbrev pub Resolves : (ℕ → Bool) → List Definition → Type 0
Resolves K defs = (L : ℕ → Bool) → NamesClosed K defs L → (d : Definition) → Memᴰ d defs → resolvable_from K L d ≡ true

-- ---- the passes compute just that

module _ (K : ℕ → Bool) (defs : List Definition) where
  -- The more names are known, the more places are resolvable.
  resolvable_mono : Monotone (resolvable K defs)
  resolvable_mono L M sub j = all_mono (or_mono (⊆-refl K) sub) (get_or defs j no_definition).used

  -- One pass over the list.
  abbrev pass : List ℕ → List ℕ
  pass o = walk (resolvable K defs) (defined_at K defs) (length defs) o (counted 0 (length defs))

  pass_sweeps : (o : List ℕ) → Sweeps (resolvable K defs) (defined_at K defs) (length defs) pass o
  pass_sweeps o = record {
    walked = record { picks = counted 0 (length defs); along = refl };
    meets = λ L j h r. elem-counted j 0 (length defs) (omega arith) (omega arith);
  }

  -- The passes are a walk, which has ended.
  pub resolved-walked : Walked (resolvable K defs) (defined_at K defs) (length defs) [] (resolved K defs)
  resolved-walked =
      rounds-walked (resolvable K defs) (defined_at K defs) (length defs) pass (λ o. (pass_sweeps o).walked) (suc (length defs)) []

  resolved-ended : Ended (resolvable K defs) (defined_at K defs) (length defs) (resolved K defs)
  resolved-ended =
      rounds-ended (resolvable K defs) (defined_at K defs) (length defs) pass pass_sweeps (suc (length defs)) [] (nil_adds_up (length defs))
      (omega (arith, nil_adds_up (length defs)))

  resolved_adds_up : AddsUp (length defs) (resolved K defs)
  resolved_adds_up = walked_adds_up resolved-walked (nil_adds_up (length defs))

  -- If they resolve, every place on the list is resolved.
  pub resolves-all : resolves K defs ≡ true → (j : ℕ) → j < length defs → elem j (resolved K defs) ≡ true
  unfolding resolves
  resolves-all r = long_has_all (resolved K defs) resolved_adds_up (eqb-true _ _ r)

  -- If the passes resolve all, so does every closed set of names.
  pub resolves_closed : resolves K defs ≡ true → Resolves K defs
  resolves_closed r L closed d m =
      let at = mem_get_d defs no_definition m in
      let reach = taken_reach (resolvable K defs) (defined_at K defs) (length defs) resolvable_mono resolved-walked.picks at.0
      (rw (← resolved-walked.along) (resolves-all r at.0 at.1)) in
      ap (resolvable_from K L) (sym at.2) ∙ and_right (ltb at.0 (length defs)) _
      (reach (λ j. ltb j (length defs) && resolvable K defs L j) L (record {
        given = λ j x s g.
            ap L (sym (eqb-true _ x g)) ∙ closed (get_or defs j no_definition)
            (get_d_mem defs j no_definition (ltb-true j _ (and_left _ _ s))) (and_right (ltb j (length defs)) _ s);
        taken = λ j h a. and_intro _ _ (lt-ltb j _ h) a;
      }))

  -- If every closed set does, the passes do: the names that they resolve are such a set.
  pub closed_resolves : Resolves K defs → resolves K defs ≡ true
  unfolding resolves
  closed_resolves f =
      let o = resolved K defs in
      let L = known (resolvable K defs) (defined_at K defs) o in
      let c = ended_closed (resolvable K defs) (defined_at K defs) (length defs) o resolved-ended in
      let closed : NamesClosed K defs L = λ d m a.
      let at = mem_get_d defs no_definition m in
      c.given at.0 d.var (c.taken at.0 at.1 (ap (resolvable_from K L) at.2 ∙ a))
      (eq-eqb _ _ (ap (λ (e : Definition). e.var) at.2)) in
      eq-eqb _ _ (all_is_long o resolved_adds_up
      (λ j h. c.taken j h (f L closed (get_or defs j no_definition) (get_d_mem defs j no_definition h))))

-- ---- what it depends on

-- The more names are known, the more definitions resolve.
pub resolves_mono : (K M : ℕ → Bool) (defs : List Definition) → K ⊆ M → resolves K defs ≡ true → resolves M defs ≡ true
resolves_mono K M defs sub r =
    closed_resolves M defs (λ L closed d m. up L d (resolves_closed K defs r L (λ e me a. closed e me (up L e a)) d m))
  where
    up : (L : ℕ → Bool) (d : Definition) → resolvable_from K L d ≡ true → resolvable_from M L d ≡ true
    up L d = all_mono (or_mono sub (⊆-refl L)) d.used

-- The more names are known, the more statements are ready.
pub ready_mono : (defs : List Definition) → Monotone (ready defs)
ready_mono defs K M sub i r =
    and_intro (some (of_statement i defs)) _ (and_left _ _ r)
    (resolves_mono K M (of_statement i defs) sub (and_right (some (of_statement i defs)) _ r))

-- e defines and uses the names that d does, each name x being ρ x.
pub record Renamed (ρ : ℕ → ℕ) (d e : Definition) : Type 0 where
  pub var : e.var ≡ ρ d.var
  pub used : (f : ℕ → Bool) → all f e.used ≡ all (λ x. f (ρ x)) d.used

-- If b has the definitions of a, renamed, and no others, it resolves where a does.
pub resolves_renamed : (ρ : ℕ → ℕ) (K : ℕ → Bool) (a b : List Definition)
    → ((d : Definition) → Memᴰ d a → (e : Definition) × Memᴰ e b × Renamed ρ d e)
    → ((e : Definition) → Memᴰ e b → (d : Definition) × Memᴰ d a × Renamed ρ d e)
    → resolves (λ x. K (ρ x)) a ≡ true → resolves K b ≡ true
resolves_renamed ρ K a b there only r =
    closed_resolves K b (λ L closed e m.
    let from = only e m in
    from.2.used (λ x. K x || L x) ∙ resolves_closed (λ x. K (ρ x)) a r (λ x. L (ρ x)) (λ d n h.
    let to = there d n in
    ap L (sym to.2.var) ∙ closed to.0 to.1 (to.2.used (λ x. K x || L x) ∙ h)) from.0 from.1)

-- Neither the order of the definitions nor repeats matter.
pub resolves-same : (K : ℕ → Bool) (a b : List Definition) → ((d : Definition) → Memᴰ d a → Memᴰ d b)
    → ((d : Definition) → Memᴰ d b → Memᴰ d a) → resolves K a ≡ resolves K b
resolves-same K a b up down = bool_ext _ _ (go a b up down) (go b a down up)
  where
    go : (a b : List Definition) → ((d : Definition) → Memᴰ d a → Memᴰ d b) → ((d : Definition) → Memᴰ d b → Memᴰ d a)
        → resolves K a ≡ true → resolves K b ≡ true
    go a b up down =
        let same : (d : Definition) → Renamed (λ x. x) d d = λ d. record { var = refl; used = λ f. refl } in
        resolves_renamed (λ x. x) K a b (λ d m. (d, up d m, same d)) (λ d m. (d, down d m, same d))
