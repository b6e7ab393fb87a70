-- What one pass does to a set of names, and what it means that a definition waits.
use mathlib.Core.Path.{◌≡◌, refl, ap, ◌∙◌}
use mathlib.Core.Bool.{Bool, true, false, not, ◌||◌}
use mathlib.Core.List.Memᴰ
use mathlib.Core.List.{List, [], ◌∷◌, Memᴰ}
use mathlib.Core.Logic.{◌⊎◌, inl, inr, ⊎_elim}
use Prim.Native.Nat.{ℕ}
use lib.Dec.{eqb}
use borrow.Author.Tests.{eqb-true, eq-eqb, not-true, not-false}
use Rattle.base.proofs.Laws.Truth.{bool_cases, not-both, or_left, or_right, or_cases}
use Rattle.base.specs.Lists.{all}
use Rattle.base.proofs.Laws.Subsets.{◌⊆◌, all_mono}
use Rattle.order.specs.Definitions.{Definition}
use Rattle.order_resolve.specs.Inner.Pass.{gain, gather, waits}

-- M has the name of each definition whose used names it has.
abbrev pub ClosedUnder : List Definition → (ℕ → Bool) → Type 0
ClosedUnder ds M = (d : Definition) → Memᴰ d ds → all M d.used ≡ true → M d.var ≡ true

-- ---- one definition

module _ (S : ℕ → Bool) (d : Definition) where
  gain_keeps : S ⊆ gain S d
  gain_keeps x h = go (bool_cases (all S d.used))
    where
      go : (all S d.used ≡ true) ⊎ (all S d.used ≡ false) → gain S d x ≡ true
      go (inl p) = rw p (or_right (eqb x d.var) (S x) h)
      go (inr p) = rw p h

  gain-has : all S d.used ≡ true → gain S d d.var ≡ true
  gain-has p = rw p (or_left _ _ (eq-eqb d.var d.var refl))

  gain-within : (M : ℕ → Bool) → S ⊆ M → (all M d.used ≡ true → M d.var ≡ true) → gain S d ⊆ M
  gain-within M sub closed x = go (bool_cases (all S d.used))
    where
      go : (all S d.used ≡ true) ⊎ (all S d.used ≡ false) → gain S d x ≡ true → M x ≡ true
      go (inl p) h =
          ⊎_elim (λ (e : eqb x d.var ≡ true). ap M (eqb-true x d.var e) ∙ closed (all_mono sub d.used p)) (sub x)
          (or_cases (eqb x d.var) (S x) (rw p at h))
      go (inr p) h = sub x (rw p at h)

-- ---- the pass

pub gather_keeps : (ds : List Definition) (S : ℕ → Bool) → S ⊆ gather ds S
gather_keeps [] S x h = h
gather_keeps (d ∷ ds) S x h = gather_keeps ds (gain S d) x (gain_keeps S d x h)

pub gather-has : (ds : List Definition) (S : ℕ → Bool) (d : Definition) → Memᴰ d ds → all S d.used ≡ true
    → gather ds S d.var ≡ true
gather-has [] S d m a = absurd (Memᴰ.not-nil m)
gather-has (e ∷ ds) S d m a =
    ⊎_elim (λ (q : d ≡ e). rw q (gather_keeps ds (gain S e) e.var (gain-has S e (rw q at a))))
    (λ (t : Memᴰ d ds). gather-has ds (gain S e) d t (all_mono (gain_keeps S e) d.used a)) (Memᴰ.cases_cons m)

-- It finds nothing that a closed set lacks.
pub gather-within : (ds : List Definition) (S M : ℕ → Bool) → S ⊆ M → ClosedUnder ds M → gather ds S ⊆ M
gather-within [] S M sub closed = sub
gather-within (d ∷ ds) S M sub closed =
    gather-within ds (gain S d) M (gain-within S d M sub (closed d (Memᴰ.head refl))) (λ e m. closed e (Memᴰ.tail m))

-- ---- who waits

or-none : (a b : Bool) → (a || b) ≡ false → (a ≡ false) × (b ≡ false)
or-none true b h = absurd (not-both refl h)
or-none false b h = (refl, h)

-- If none waits, the used names and the name of each definition were found.
pub waits-none : (ds : List Definition) (S : ℕ → Bool) → waits ds S ≡ false → (d : Definition) → Memᴰ d ds
    → (all (gather ds S) d.used ≡ true) × (gather ds S d.var ≡ true)
waits-none [] S w d m = absurd (Memᴰ.not-nil m)
waits-none (e ∷ ds) S w d m =
    let none = or-none (not (all S e.used)) (waits ds (gain S e)) w in
    let here : all S e.used ≡ true = not-false _ none.0 in
    ⊎_elim
    (λ (q : d ≡ e).
    rw q (all_mono (gather_keeps (e ∷ ds) S) e.used here, gather-has (e ∷ ds) S e (Memᴰ.head refl) here))
    (λ (t : Memᴰ d ds). waits-none ds (gain S e) none.1 d t) (Memᴰ.cases_cons m)

-- If one waits, it used a name that was not there at the start.
pub waits-some : (ds : List Definition) (S : ℕ → Bool) → waits ds S ≡ true
    → (d : Definition) × Memᴰ d ds × (all S d.used ≡ false)
waits-some [] S w = absurd (not-both w refl)
waits-some (e ∷ ds) S w =
    ⊎_elim (λ (p : not (all S e.used) ≡ true). (e, Memᴰ.head refl, not-true _ p))
    (λ (p : waits ds (gain S e) ≡ true). let r = waits-some ds (gain S e) p in (r.0, Memᴰ.tail r.1, before r.0.used r.2))
    (or_cases _ _ w)
  where
    before : (l : List ℕ) → all (gain S e) l ≡ false → all S l ≡ false
    before l fails =
        ⊎_elim (λ (a : all S l ≡ true). absurd (not-both (all_mono (gain_keeps S e) l a) fails)) (λ (a : all S l ≡ false). a)
        (bool_cases (all S l))
