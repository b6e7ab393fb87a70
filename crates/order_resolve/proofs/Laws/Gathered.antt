-- Passes in a row: what they find decides whether the definitions resolve.
use mathlib.Core.Path.{◌≡◌, sym, ap, ◌∙◌}
use mathlib.Core.Bool.{Bool, true, false, ◌||◌}
use mathlib.Core.List.{List, Memᴰ}
use mathlib.Core.Logic.{⊎_elim}
use Prim.Native.Nat.{ℕ}
use Rattle.base.proofs.Laws.Truth.{bool_cases, bool_ext, not-both, or_left, or_right, or_cases}
use Rattle.base.specs.Lists.{all}
use Rattle.base.proofs.Laws.Subsets.{◌⊆◌, ⊆-refl, all_mono}
use Rattle.order.specs.Definitions.{Definition, resolves}
use Rattle.order.proofs.Laws.Resolving.{NamesClosed, resolves_closed, closed_resolves}
use Rattle.order_resolve.specs.Inner.Pass.{gather, waits}
use Rattle.order_resolve.proofs.Laws.Closure.{ClosedUnder, gather_keeps, gather-has, gather-within, waits-none, waits-some}

module _ (K : ℕ → Bool) (ds : List Definition) where
  -- S has the names known, and nothing that a closed set with these lacks.
  pub record GatheredNames (S : ℕ → Bool) : Type 0 where
    pub from : K ⊆ S
    pub within : (M : ℕ → Bool) → K ⊆ M → ClosedUnder ds M → S ⊆ M

  pub gathered-first : GatheredNames K
  gathered-first = record { from = ⊆-refl K; within = λ M k closed. k }

  module _ {S : ℕ → Bool} (g : GatheredNames S) where
    pub gathered_next : GatheredNames (gather ds S)
    gathered_next = record {
      from = λ x k. gather_keeps ds S x (g.from x k);
      within = λ M k closed. gather-within ds S M (g.within M k closed) closed;
    }

    -- ---- none waits

    pub none-waits : waits ds S ≡ false → resolves K ds ≡ true
    none-waits w =
        closed_resolves K ds (λ L closed d m.
        let inside = gathered_next.within (λ x. K x || L x) (λ x k. or_left (K x) (L x) k) (λ e n a. or_right (K e.var) _ (closed e n a)) in
        all_mono inside d.used (waits-none ds S w d m).0)

    -- The set then has the names known and those defined, D.
    pub all_known : waits ds S ≡ false → (D : ℕ → Bool) → ((d : Definition) → Memᴰ d ds → D d.var ≡ true)
        → ((x : ℕ) → D x ≡ true → (d : Definition) × Memᴰ d ds × (d.var ≡ x)) → (x : ℕ) → gather ds S x ≡ (D x || K x)
    all_known w D defined by x =
        let g' = gathered_next in
        bool_ext _ _ (g'.within (λ y. D y || K y) (λ y k. or_right (D y) (K y) k) (λ d m a. or_left (D d.var) _ (defined d m)) x)
        (λ (h : (D x || K x) ≡ true).
        ⊎_elim (λ (p : D x ≡ true). let r = by x p in ap (gather ds S) (sym r.2) ∙ (waits-none ds S w r.0 r.1).1) (g'.from x)
        (or_cases _ _ h))

    -- ---- one waits, and the pass found nothing

    pub one-waits : gather ds S ⊆ S → waits ds S ≡ true → resolves K ds ≡ false
    one-waits none w =
        ⊎_elim
        (λ (r : resolves K ds ≡ true).
        absurd (not-both (all_mono known one.0.used (resolves_closed K ds r S closed one.0 one.1)) one.2))
        (λ (r : resolves K ds ≡ false). r) (bool_cases (resolves K ds))
      where
        one : (d : Definition) × Memᴰ d ds × (all S d.used ≡ false)
        one = waits-some ds S w

        known : (λ x. K x || S x) ⊆ S
        known x h = ⊎_elim (g.from x) (λ (s : S x ≡ true). s) (or_cases (K x) (S x) h)

        closed : NamesClosed K ds S
        closed d m a = none d.var (gather-has ds S d m (all_mono known d.used a))
