-- Demand 3, of a list of definitions: what the marks and the order mean, whoever walks, in whatever order and under whatever names.
use Rattle.std.specs.Prelude.{◌≡◌, true, false, List, ◌↔◌, ℕ}
use Rattle.base.specs.Lists.{elem, range}
use Rattle.order.specs.Definitions.{Definition, plain_walk, WalkEnded, can_be_walked}
use Rattle.order.specs.Turns.{statements, placements, placed, order, reached}
use Rattle.order.specs.Relisting.{Bijection, Permutes, Relisted, OrderOfAll}

-- Of n statements with these definitions, in rounds over the names below m.
pub record PlainWalks (defs : List Definition) (n m : ℕ) : Type 0 where
  -- However the statements are relisted by π, the names exchanged by ρ (the empty name with them, and to any numbers), the definitions listed
  -- and repeated, and whatever is picked until nothing can be taken: the plain walk takes the statements marked reached, and no others.
  pub shared : (π ρ : Bijection) (others : List Definition) → Permutes n π → Relisted π.to ρ.to defs others
      → (picks : List ℕ) → WalkEnded others n (plain_walk others n picks)
      → (i : ℕ) → reached defs n m i ≡ elem (π.to i) (plain_walk others n picks)
  -- Placed exactly if some order of all statements, each once, can be walked.
  pub walkable : (placed defs n m ≡ true) ↔ ((o : List ℕ) × OrderOfAll n o × (can_be_walked defs n o ≡ true))
  -- If placed, the order handed out is that of the turns, and such an order.
  pub in_turns : placed defs n m ≡ true → order defs n m ≡ statements (placements defs n m)
  pub order-placed : placed defs n m ≡ true → OrderOfAll n (order defs n m) × (can_be_walked defs n (order defs n m) ≡ true)
  -- If not, it is the written one.
  pub order-unplaced : placed defs n m ≡ false → order defs n m ≡ range 0 n
