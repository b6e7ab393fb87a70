-- A query written otherwise: statements relisted, names exchanged, definitions in any order and repeated.
-- Beside: document 01, Order (Relisting and exchange).
use Rattle.std.specs.Prelude.{◌≡◌, ℕ, ◌<◌, true, length}
use mathlib.Core.List.{List, Memᴰ}
use Rattle.base.specs.Lists.{elem}
use Rattle.order.specs.Definitions.{Definition}

-- A one-to-one map of the numbers onto the numbers, and its inverse.
pub record Bijection : Type 0 where
  pub to : ℕ → ℕ
  pub from : ℕ → ℕ
  pub from-to : (x : ℕ) → from (to x) ≡ x
  pub to-from : (x : ℕ) → to (from x) ≡ x

-- It moves the numbers below n among themselves: a relisting of n statements.
pub record Permutes (n : ℕ) (π : Bijection) : Type 0 where
  pub below : (i : ℕ) → i < n → π.to i < n
  pub below-back : (i : ℕ) → i < n → π.from i < n

-- e is the definition d with its statement moved by π and its names by ρ. The names used are a set.
pub record Moved (π ρ : ℕ → ℕ) (d e : Definition) : Type 0 where
  pub statement : e.statement ≡ π d.statement
  pub var : e.var ≡ ρ d.var
  pub used : (x : ℕ) → elem (ρ x) e.used ≡ elem x d.used

-- defs' has the definitions of defs, moved, and no others.
pub record Relisted (π ρ : ℕ → ℕ) (defs defs' : List Definition) : Type 0 where
  pub there : (d : Definition) → Memᴰ d defs → (e : Definition) × Memᴰ e defs' × Moved π ρ d e
  pub only : (e : Definition) → Memᴰ e defs' → (d : Definition) × Memᴰ d defs × Moved π ρ d e

-- ---- placed

-- An order of all n statements, each once: all are on the list, and it has room for no more.
pub record OrderOfAll (n : ℕ) (q : List ℕ) : Type 0 where
  pub has : (i : ℕ) → i < n → elem i q ≡ true
  pub once : length q ≡ n
