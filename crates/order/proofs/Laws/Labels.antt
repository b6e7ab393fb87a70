-- The labels change nothing: the statements of the placements are the order that the turn rule makes on the order alone.
use mathlib.Core.Path.{◌≡◌, refl, sym, ap, ◌∙◌}
use mathlib.Core.Bool.{Bool, true, false, cond}
use mathlib.Core.List.{List, [], ◌∷◌, ◌++◌, map-append}
use Prim.Native.Nat.{ℕ, zero, suc}
use lib.Dec.{eqb}
use lib.ListN.{length, length-map}
use Rattle.base.specs.Lists.{elem, range}
use Rattle.order.specs.Walk.{takeable, pick, walk, rounds}
use Rattle.order.specs.Definitions.{Definition, defines, ready}
use Rattle.order.specs.Turns.{Turn, Placement, statements, try, tries, defining, turn_of, followed, round, rounds_from, placements, placed, order, reached}
use Rattle.order.specs.Inner.Orders.{turn_order, followed_order, round_order, placed_order}

-- Each placement has one statement.
pub placed-length : (p : List Placement) → length (statements p) ≡ length p
placed-length p = length-map p (λ (q : Placement). q.statement)

-- A choice between two lists of placements is one between their statements.
statements_cond : (b : Bool) (p q : List Placement) → statements (cond b p q) ≡ cond b (statements p) (statements q)
statements_cond true p q = refl
statements_cond false p q = refl

module _ (defs : List Definition) (n : ℕ) where
  -- A try is a pick.
  try-statements : (t : Turn) (p : List Placement) (i : ℕ)
      → statements (try defs n t p i) ≡ pick (ready defs) (defines defs) n (statements p) i
  try-statements t p i =
      let new : Placement = record { statement = i; turn = t } in
      statements_cond (takeable (ready defs) (defines defs) n (statements p) i) (p ++ (new ∷ [])) p
      ∙ ap (λ (l : List ℕ). cond (takeable (ready defs) (defines defs) n (statements p) i) l (statements p))
      (map-append (λ (q : Placement). q.statement) p (new ∷ []))

  -- Tries are a walk.
  tries-statements : (t : Turn) (p : List Placement) (picks : List ℕ)
      → statements (tries defs n t p picks) ≡ walk (ready defs) (defines defs) n (statements p) picks
  tries-statements t p [] = refl
  tries-statements t p (i ∷ picks) =
      tries-statements t (try defs n t p i) picks ∙ ap (λ (o : List ℕ). walk (ready defs) (defines defs) n o picks) (try-statements t p i)

  -- A turn, a followed turn, a round, the rounds and all placements are those of the order alone.
  pub turn-statements : (x : ℕ) (t : Turn) (p : List Placement) → statements (turn_of defs n x t p) ≡ turn_order defs n x (statements p)
  turn-statements x t p = tries-statements t p (defining defs n x)

  pub followed-statements : (r : ℕ) (p : List Placement) (x : ℕ)
      → statements (followed defs n r p x) ≡ followed_order defs n (statements p) x
  followed-statements r p x =
      let own = turn_of defs n x (record { round = r; name = x; follow = false }) p in
      let more = turn_of defs n 0 (record { round = r; name = x; follow = true }) own in
      let e : statements own ≡ turn_order defs n x (statements p) = turn-statements x _ p in
      statements_cond (eqb (length own) (length p)) own more
      ∙ rw (← placed-length own, ← placed-length p, turn-statements 0 _ own, e)

  pub round-statements : (r : ℕ) (names : List ℕ) (p : List Placement)
      → statements (round defs n r names p) ≡ round_order defs n names (statements p)
  unfolding round round_order
  round-statements r [] p = refl
  round-statements r (x ∷ names) p =
      round-statements r names (followed defs n r p x) ∙ ap (round_order defs n names) (followed-statements r p x)

  rounds-statements : (names : List ℕ) (r fuel : ℕ) (p : List Placement)
      → statements (rounds_from defs n names r fuel p) ≡ rounds (round_order defs n names) fuel (statements p)
  rounds-statements names r zero p = refl
  rounds-statements names r (suc fuel) p =
      let after = round defs n r names p in
      statements_cond (eqb (length after) (length p)) after (rounds_from defs n names (suc r) fuel after)
      ∙ rw (← placed-length after, ← placed-length p, rounds-statements names (suc r) fuel after, round-statements r names p)

  pub placements-order : (m : ℕ) → statements (placements defs n m) ≡ placed_order defs n m
  unfolding placements placed_order
  placements-order m =
      rounds-statements (range 0 m) 1 (suc n) _ ∙ ap (rounds (round_order defs n (range 0 m)) (suc n)) (turn-statements 0 _ [])

  pub placements-length : (m : ℕ) → length (placements defs n m) ≡ length (placed_order defs n m)
  placements-length m = sym (placed-length (placements defs n m)) ∙ ap length (placements-order m)

  -- ---- what is read off, said of the order alone

  pub placed_by_order : (m : ℕ) → placed defs n m ≡ eqb (length (placed_order defs n m)) n
  placed_by_order m = ap (λ (k : ℕ). eqb k n) (placements-length m)

  pub order_by_order : (m : ℕ) → order defs n m ≡ cond (placed defs n m) (placed_order defs n m) (range 0 n)
  order_by_order m = ap (λ (l : List ℕ). cond (placed defs n m) l (range 0 n)) (placements-order m)

  pub reached_by_order : (m i : ℕ) → reached defs n m i ≡ elem i (placed_order defs n m)
  reached_by_order m i = ap (elem i) (placements-order m)
