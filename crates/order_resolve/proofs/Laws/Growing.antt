-- What holds at the test of the loop of `pass`, of the names seen: none is lost, and the flag says whether one is new.
use mathlib.Core.Path.{◌≡◌, refl, sym, ap, ◌∙◌}
use mathlib.Core.Bool.{Bool, true, false, ◌||◌}
use mathlib.Core.List.{List}
use mathlib.Core.Logic.{◌⊎◌, inl, inr, ⊎_elim}
use Prim.Native.Nat.{ℕ}
use lib.Dec.{eqb}
use borrow.Author.Tests.{eqb-true, eq-eqb}
use Rattle.base.proofs.Laws.Truth.{bool_cases, not-both, or_left}
use Rattle.base.specs.Lists.{all}
use Rattle.base.proofs.Laws.Subsets.{◌⊆◌}
use Rattle.base.specs.Sets.{member, members}
use Rattle.names.specs.Inner.Sets.{Inserted}
use Rattle.names.proofs.Laws.Laws.{all-members, members-all, inserted_keeps}
use Rattle.order_resolve.specs.Inner.Pass.{grows}

pub record Growing (start seen : List ℕ) (grew : Bool) : Type 0 where
  pub up : member start ⊆ member seen
  pub none : grew ≡ false → seen ≡ start
  pub new : grew ≡ true → (x : ℕ) × (member seen x ≡ true) × (member start x ≡ false)

pub growing_first : (start : List ℕ) → Growing start start false
growing_first start = record { up = λ x h. h; none = λ e. refl; new = λ e. absurd (not-both e refl) }

-- A name that is there is there already.
pub inserted_there : (seen : List ℕ) (x : ℕ) → member seen x ≡ true → Inserted seen x seen
inserted_there seen x h = record { has = λ n. go n (bool_cases (eqb n x)) }
  where
    go : (n : ℕ) → (eqb n x ≡ true) ⊎ (eqb n x ≡ false) → member seen n ≡ (eqb n x || member seen n)
    go n (inl e) = rw e (ap (member seen) (eqb-true n x e) ∙ h)
    go n (inr e) = rw e

module _ {start seen : List ℕ} {grew : Bool} (g : Growing start seen grew) where
  pub growing_adds : (x : ℕ) → member seen x ≡ false → {more : List ℕ} → Inserted seen x more → Growing start more true
  growing_adds x fresh i = record {
    up = λ y h. inserted_keeps i y (g.up y h);
    none = λ e. absurd (not-both refl e);
    new = λ e. (x, i.has x ∙ or_left (eqb x x) _ (eq-eqb x x refl), absent);
  }
    where
      absent : member start x ≡ false
      absent =
          ⊎_elim (λ (h : member start x ≡ true). absurd (not-both (g.up x h) fresh)) (λ (h : member start x ≡ false). h) (bool_cases (member start x))

  pub growing_end : grew ≡ grows start seen
  growing_end = go (bool_cases grew) (bool_cases (all (member start) (members seen)))
    where
      go : (grew ≡ true) ⊎ (grew ≡ false) → (all (member start) (members seen) ≡ true) ⊎ (all (member start) (members seen) ≡ false)
          → grew ≡ grows start seen
      go (inl e) (inl a) = let n = g.new e in absurd (not-both (all-members (member start) seen a n.0 n.1) n.2)
      go (inl e) (inr a) = rw (e, a)
      go (inr e) (inl a) = rw (e, a)
      go (inr e) (inr a) =
          absurd (not-both (members-all (member start) seen (λ n m. ap (λ (l : List ℕ). member l n) (sym (g.none e)) ∙ m)) a)
