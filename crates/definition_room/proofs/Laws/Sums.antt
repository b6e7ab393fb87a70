-- Laws of `Sums`.
use mathlib.Core.Path.{◌≡◌, refl, ap}
use mathlib.Core.Bool.{Bool, true, false, cond}
use mathlib.Core.List.{List, [], ◌∷◌}
use mathlib.Core.Logic.{◌⊎◌, inl, inr}
use Prim.Native.Nat.{ℕ, zero, suc, ◌+◌, ◌-◌, ◌≤◌}
use native.Mathlib.Omega.{arith}
use lib.Dec.{eqb}
use lib.ListN.{length}
use borrow.Author.Tests.{eq-eqb}
use Rattle.base.proofs.Laws.Truth.{eq_cases}
use Rattle.sheet.specs.Naming.{Naming, namers}
use Rattle.definition_room.specs.Inner.Sizes.{total}
use Rattle.definition_room.specs.Inner.Sums.{sum_to}

-- More at each row is more.
pub sum_mono : (g h : ℕ → ℕ) (n : ℕ) → ((r : ℕ) → 1 ≤ r → r ≤ n → g r ≤ h r) → sum_to g n ≤ sum_to h n
unfolding sum_to
sum_mono g h zero l = omega arith
sum_mono g h (suc n) l = omega (arith, sum_mono g h n (λ r a b. l r a (omega arith)), l (suc n) (omega arith) (omega arith))

-- Sums add up.
pub sum_add : (g h : ℕ → ℕ) (n : ℕ) → sum_to (λ r. g r + h r) n ≡ sum_to g n + sum_to h n
unfolding sum_to
sum_add g h zero = omega arith
sum_add g h (suc n) = omega (arith, sum_add g h n)

-- One more at each row is n more.
pub sum_suc : (g : ℕ → ℕ) (n : ℕ) → sum_to (λ r. suc (g r)) n ≡ n + sum_to g n
unfolding sum_to
sum_suc g zero = omega arith
sum_suc g (suc n) = omega (arith, sum_suc g n)

-- One row is no more than all.
pub sum_at : (g : ℕ → ℕ) (n r : ℕ) → 1 ≤ r → r ≤ n → g r ≤ sum_to g n
unfolding sum_to
sum_at g zero r a b = absurd (omega arith)
sum_at g (suc n) r a b = go (eq_cases r (suc n)) (λ l. sum_at g n r a l)
  where
    go : (r ≡ suc n) ⊎ (r ≡ suc n → ⊥) → (r ≤ n → g r ≤ sum_to g n) → g r ≤ sum_to g n + g (suc n)
    go (inl e) rest = omega (arith, ap g e)
    go (inr ne) rest = omega (arith, rest (omega arith))

-- More rows are more.
pub sum_longer : (g : ℕ → ℕ) (m n : ℕ) → m ≤ n → sum_to g m ≤ sum_to g n
unfolding sum_to
sum_longer g m zero l = let z : m ≡ 0 = omega arith in omega (arith, ap (sum_to g) z)
sum_longer g m (suc n) l = go (eq_cases m (suc n)) (λ k. sum_longer g m n k)
  where
    go : (m ≡ suc n) ⊎ (m ≡ suc n → ⊥) → (m ≤ n → sum_to g m ≤ sum_to g n) → sum_to g m ≤ sum_to g n + g (suc n)
    go (inl e) rest = omega (arith, ap (sum_to g) e)
    go (inr ne) rest = omega (arith, rest (omega arith))

-- The last row is added to those before.
pub sum_last : (g : ℕ → ℕ) (n : ℕ) → 1 ≤ n → sum_to g n ≡ sum_to g (n - 1) + g n
unfolding sum_to
sum_last g zero l = absurd (omega arith)
sum_last g (suc n) l = let e : suc n - 1 ≡ n = omega arith in omega (arith, ap (sum_to g) e)

-- ---- over namings

-- Row b + r of a section of n rows is worth g r, and any other row nothing.
unfoldable pub valued : ℕ → (ℕ → ℕ) → ℕ → ℕ → ℕ
valued b g zero k = 0
valued b g (suc n) k = valued b g n k + cond (eqb k (b + suc n)) (g (suc n)) 0

-- A row of the section has its value.
pub valued-at : (b : ℕ) (g : ℕ → ℕ) (n r : ℕ) → 1 ≤ r → r ≤ n → g r ≤ valued b g n (b + r)
unfolding valued
valued-at b g zero r l h = absurd (omega arith)
valued-at b g (suc n) r l h = go (eq_cases r (suc n)) (λ k. valued-at b g n r l k)
  where
    go : (r ≡ suc n) ⊎ (r ≡ suc n → ⊥) → (r ≤ n → g r ≤ valued b g n (b + r))
        → g r ≤ valued b g n (b + r) + cond (eqb (b + r) (b + suc n)) (g (suc n)) 0
    go (inl e) rest = rw (eq-eqb (b + r) (b + suc n) (ap (λ (i : ℕ). b + i) e)) (omega (arith, ap g e))
    go (inr ne) rest = omega (arith, rest (omega arith))

-- What the rows are worth that are named, a row as often as it is named.
abbrev pub worth : (ℕ → ℕ) → List Naming → ℕ
worth f ns = total (λ (x : Naming). f x.to) ns

worth-add : (f g : ℕ → ℕ) (ns : List Naming) → worth (λ k. f k + g k) ns ≡ worth f ns + worth g ns
worth-add f g [] = omega arith
worth-add f g (x ∷ ns) = omega (arith, worth-add f g ns)

worth-nothing : (ns : List Naming) → worth (λ k. 0) ns ≡ 0
worth-nothing [] = refl
worth-nothing (x ∷ ns) = omega (arith, worth-nothing ns)

module _ (k v : ℕ) where
  worth-none : (ns : List Naming) → length (namers k ns) ≤ 0 → worth (λ j. cond (eqb j k) v 0) ns ≤ 0
  unfolding namers
  worth-none [] h = omega arith
  worth-none (x ∷ ns) h = go (eqb x.to k) (λ l. worth-none ns l) h
    where
      go : (b : Bool) → (length (namers k ns) ≤ 0 → worth (λ j. cond (eqb j k) v 0) ns ≤ 0)
          → length (cond b (x ∷ namers k ns) (namers k ns)) ≤ 0 → cond b v 0 + worth (λ j. cond (eqb j k) v 0) ns ≤ 0
      go true rest l = absurd (omega arith)
      go false rest l = omega (arith, rest l)

  worth-one : (ns : List Naming) → length (namers k ns) ≤ 1 → worth (λ j. cond (eqb j k) v 0) ns ≤ v
  unfolding namers
  worth-one [] h = omega arith
  worth-one (x ∷ ns) h = go (eqb x.to k) (λ l. worth-one ns l) h
    where
      go : (b : Bool) → (length (namers k ns) ≤ 1 → worth (λ j. cond (eqb j k) v 0) ns ≤ v)
          → length (cond b (x ∷ namers k ns) (namers k ns)) ≤ 1 → cond b v 0 + worth (λ j. cond (eqb j k) v 0) ns ≤ v
      go true rest l = omega (arith, worth-none ns (omega arith))
      go false rest l = omega (arith, rest l)

-- Rows that are named at most once.
pub named-once : (b : ℕ) (g : ℕ → ℕ) (n : ℕ) (ns : List Naming) → ((r : ℕ) → 1 ≤ r → r ≤ n → length (namers (b + r) ns) ≤ 1)
    → worth (valued b g n) ns ≤ sum_to g n
unfolding valued sum_to
named-once b g zero ns h = omega (arith, worth-nothing ns)
named-once b g (suc n) ns h =
    omega (
      arith,
      worth-add (valued b g n) (λ k. cond (eqb k (b + suc n)) (g (suc n)) 0) ns,
      named-once b g n ns (λ r l m. h r l (omega arith)),
      worth-one (b + suc n) (g (suc n)) ns (h (suc n) (omega arith) (omega arith)),
    )
