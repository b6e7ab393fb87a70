-- The turn rule, with each placement's round and turn; and what is read off the placements: placed, order, reached.
-- Beside: document 01, Order; scheduler.rs, `schedule`.
use Rattle.std.specs.Prelude.{Bool, true, false, cond, List, [], ◌∷◌, ◌++◌, map, ℕ, zero, suc, eqb, length}
use Rattle.base.specs.Lists.{elem, filter, range}
use Rattle.order.specs.Walk.{takeable}
use Rattle.order.specs.Definitions.{Definition, defines, ready}

-- A turn: its round (0 for the opening turn), the name whose turn it is, and whether it is the turn of the empty name that follows that
-- name's.
pub record Turn : Type 0 where
  pub round : ℕ
  pub name : ℕ
  pub follow : Bool

-- A statement with the turn that placed it.
pub record Placement : Type 0 where
  pub statement : ℕ
  pub turn : Turn

abbrev pub statements : List Placement → List ℕ
statements placements = map (λ (p : Placement). p.statement) placements

module _ (defs : List Definition) (n : ℕ) where
  -- A try: the statement is placed if it is unplaced and its definitions resolve from the names that those placed define.
  abbrev pub try : Turn → List Placement → ℕ → List Placement
  try turn placed i =
      cond (takeable (ready defs) (defines defs) n (statements placed) i) (placed ++ (record { statement = i; turn = turn } ∷ [])) placed

  abbrev pub tries : Turn → List Placement → List ℕ → List Placement
  tries turn placed [] = placed
  tries turn placed (i ∷ rest) = tries turn (try turn placed i) rest

  -- The statements that define a name, lowest index first.
  abbrev pub defining : ℕ → List ℕ
  defining x = filter (λ i. defines defs i x) (range 0 n)

  -- The turn of a name tries its statements.
  abbrev pub turn_of : ℕ → Turn → List Placement → List Placement
  turn_of x turn placed = tries turn placed (defining x)

  -- In a round, a name's turn that placed something is followed by one more turn of the empty name, which is followed by none.
  abbrev pub followed : ℕ → List Placement → ℕ → List Placement
  followed r placed x =
      let own = turn_of x (record { round = r; name = x; follow = false }) placed in
      let more = turn_of 0 (record { round = r; name = x; follow = true }) own in
      cond (eqb (length own) (length placed)) own more

  -- A round takes the names in their order.
  unfoldable pub round : ℕ → List ℕ → List Placement → List Placement
  round r [] placed = placed
  round r (x ∷ names) placed = round r names (followed r placed x)

  -- Rounds over the names, from round r on, until one places nothing. At most `fuel` of them: one more than there are statements is enough.
  abbrev pub rounds_from : List ℕ → ℕ → ℕ → List Placement → List Placement
  rounds_from names r zero placed = placed
  rounds_from names r (suc fuel) placed =
      let after = round r names placed in
      let rest = rounds_from names (suc r) fuel after in
      cond (eqb (length after) (length placed)) after rest

  -- All placements: the opening turn of the empty name, then rounds over all names below m, ascending.
  unfoldable pub placements : ℕ → List Placement
  placements m = rounds_from (range 0 m) 1 (suc n) (turn_of 0 (record { round = 0; name = 0; follow = false }) [])

  -- ---- what is read off

  -- Were all statements placed?
  abbrev pub placed : ℕ → Bool
  placed m = eqb (length (placements m)) n

  -- The order handed out: that of the placements, or the written one.
  abbrev pub order : ℕ → List ℕ
  order m = cond (placed m) (statements (placements m)) (range 0 n)

  -- Was statement i reached?
  abbrev pub reached : ℕ → ℕ → Bool
  reached m i = elem i (statements (placements m))

-- A mark as a number.
abbrev pub mark : Bool → ℕ
mark b = cond b 1 0
