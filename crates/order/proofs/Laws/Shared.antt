-- Laws of `Shared`.
use mathlib.Core.Path.{ap, ◌∙◌}
use mathlib.Core.List.{List}
use Prim.Native.Nat.{ℕ}
use Rattle.base.specs.Lists.{elem}
use Rattle.order.specs.Definitions.{Definition, Named}
use Rattle.order.proofs.Laws.Theorems.{placements-ended, relisted_taken, placed-order, placed_iff, unplaced-order}
use Rattle.order.specs.Inner.Shared.{PlainWalks}

-- So it is of every list whose defined names lie below m.
pub plain_walks : (defs : List Definition) (n m : ℕ) → Named defs m → PlainWalks defs n m
plain_walks defs n m named =
    let w = placements-ended defs n m named in
    record {
      shared = λ π ρ others p r picks ended i. ap (elem i) w.along ∙ relisted_taken π ρ n defs others p r w.picks picks w.ended ended i;
      walkable = placed_iff defs n m named;
      in_turns = λ h. rw h;
      order-placed = placed-order defs n m named;
      order-unplaced = unplaced-order defs n m;
    }
