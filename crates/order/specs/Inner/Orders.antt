-- The turn rule on the order alone, which is what the code keeps: the statements of the placements, without their turns.
use Rattle.std.specs.Prelude.{cond, List, [], ◌∷◌, ℕ, suc, eqb, length}
use Rattle.base.specs.Lists.{range}
use Rattle.order.specs.Walk.{walk, rounds}
use Rattle.order.specs.Definitions.{Definition, defines, ready}
use Rattle.order.specs.Turns.{defining}

module _ (defs : List Definition) (n : ℕ) where
  abbrev pub turn_order : ℕ → List ℕ → List ℕ
  turn_order x order = walk (ready defs) (defines defs) n order (defining defs n x)

  abbrev pub followed_order : List ℕ → ℕ → List ℕ
  followed_order order x =
      let own = turn_order x order in
      let more = turn_order 0 own in
      cond (eqb (length own) (length order)) own more

  unfoldable pub round_order : List ℕ → List ℕ → List ℕ
  round_order [] order = order
  round_order (x ∷ names) order = round_order names (followed_order order x)

  unfoldable pub placed_order : ℕ → List ℕ
  placed_order m = rounds (round_order (range 0 m)) (suc n) (turn_order 0 [])
