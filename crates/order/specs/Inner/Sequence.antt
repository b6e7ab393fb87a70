-- Resolving in a sequence, each definition from names known or defined earlier in it: the same as resolving by passes.
use Rattle.std.specs.Prelude.{◌≡◌, Bool, true, ◌&&◌, ◌||◌, ℕ, eqb}
use mathlib.Core.List.{List, [], ◌∷◌, Memᴰ}
use Rattle.base.specs.Lists.{all}
use Rattle.order.specs.Definitions.{Definition}

-- Does each definition on the list use only names in K and names that earlier ones define?
abbrev pub from_earlier : (ℕ → Bool) → List Definition → Bool
from_earlier K [] = true
from_earlier K (d ∷ rest) = all K d.used && from_earlier (λ x. eqb d.var x || K x) rest

-- The definitions resolve in some sequence: it has those of the list and no others, in any order; repeats do not matter.
pub record InSequence (K : ℕ → Bool) (defs : List Definition) : Type 0 where
  pub sequence : List Definition
  pub there : (d : Definition) → Memᴰ d defs → Memᴰ d sequence
  pub only : (d : Definition) → Memᴰ d sequence → Memᴰ d defs
  pub resolve : from_earlier K sequence ≡ true
