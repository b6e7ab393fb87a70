-- The places of a query, read off the scheduler's buffers.
use mathlib.Core.Path.{◌≡◌, sym, ap, ◌∙◌, subst}
use mathlib.Core.Bool.{Bool, true, false, cond}
use mathlib.Core.List.{List, map, map-id}
use Prim.Native.Nat.{ℕ, ◌+◌, ◌-◌, ◌*◌, ◌≤◌, ◌<◌}
use native.Mathlib.Omega.{arith}
use lib.Dec.{eqb}
use lib.ListN.{length, get_or, replicate, length-map, get_or-append}
use borrow.Author.Tests.{eqb-true}
use Rattle.base.specs.Limits as limits
use Rattle.base.specs.Limits.{Limits}
use Rattle.base.specs.Lists.{range}
use Rattle.base.proofs.Laws.Members.{get_d_mem, mem_elem}
use Rattle.buffers.proofs.Laws.Fills.{length-range}
use Rattle.order.proofs.Laws.Walked.{walked-below}
use Rattle.order.specs.Definitions.{Definition}
use Rattle.order.specs.Turns.{placed, order, reached, mark}
use Rattle.order.specs.Inner.Orders.{placed_order}
use Rattle.order.proofs.Laws.Labels.{placed_by_order, order_by_order}
use Rattle.order.proofs.Laws.OrderWalks.{placed-walked}
use Rattle.order.specs.Call.{definitions}
use Rattle.order_schedule.specs.Inner.Call.{Arranged}
use Rattle.order_schedule.proofs.Laws.Leaves.{get_d_map_range}
use Rattle.answer_text.specs.Inner.Stored.{PlaceIn}
use Rattle.answer_store.specs.Inner.Words.{place_word}
use Rattle.answer_schedule.proofs.Laws.SameOrder.{AllAmong, same-order, same-reached}

-- ---- the order

module _ (defs : List Definition) (n m : ℕ) where
  pub order-length : length (order defs n m) ≡ n
  order-length = ap length (order_by_order defs n m) ∙ go (placed defs n m) (placed_by_order defs n m)
    where
      go : (p : Bool) → p ≡ eqb (length (placed_order defs n m)) n → length (cond p (placed_order defs n m) (range 0 n)) ≡ n
      go true e = eqb-true _ n (sym e)
      go false e = length-range n

  -- Its entries are statements.
  pub order_below : (k : ℕ) → k < n → get_or (order defs n m) k 0 < n
  order_below k l =
      subst (λ (o : List ℕ). get_or o k 0 < n) (sym (order_by_order defs n m)) (go (placed defs n m) (placed_by_order defs n m))
    where
      go : (p : Bool) → p ≡ eqb (length (placed_order defs n m)) n → get_or (cond p (placed_order defs n m) (range 0 n)) k 0 < n
      go true e =
          let o = placed_order defs n m in
          walked-below (placed-walked defs n m) (get_or o k 0)
          (mem_elem o (get_d_mem o k 0 (omega (arith, eqb-true (length o) n (sym e)))))
      go false e =
          omega (arith, ap (λ (o : List ℕ). get_or o k 0) (sym (map-id (range 0 n))), get_d_map_range (λ i. i) n k l)

-- ---- the buffers

module _ (lim : Limits) (ws : List ℕ) (n room marks : ℕ) (all : Bool) (o m : List ℕ) (s : Arranged lim ws n room marks all o m) where
  order-at : (k : ℕ) → k < n → get_or o k 0 ≡ get_or (order (definitions lim.row ws) n limits.per_name) k 0
  order-at k l =
      ap (λ (x : List ℕ). get_or x k 0) s.ordered
      ∙ get_or-append (order (definitions lim.row ws) n limits.per_name) (replicate (room - n) 0) 0 k (omega (arith, order-length (definitions lim.row ws) n limits.per_name))

  -- The entries of the order are indexes of the marks.
  pub entries_in : n ≤ length m → (k : ℕ) → k < n → get_or o k 0 < length m
  entries_in long k l = omega (arith, order-at k l, order_below (definitions lim.row ws) n limits.per_name k l)

  module _ (few : n ≤ limits.most_statements) (defs : List Definition) (up : AllAmong (definitions lim.row ws) defs) (down : AllAmong defs (definitions lim.row ws)) where
    -- A place: its statement, and whether that was reached.
    pub place_in : (k : ℕ) → k < n
        → (let i = get_or (order defs n limits.per_name) k 0 in PlaceIn (place_word o m k) i (mark (reached defs n limits.per_name i)))
    place_in k l = record { index = omega (arith, low); both = both }
      where
        low : get_or (order defs n limits.per_name) k 0 < n
        low = order_below defs n limits.per_name k l

        first : get_or o k 0 ≡ get_or (order defs n limits.per_name) k 0
        first = order-at k l ∙ ap (λ (x : List ℕ). get_or x k 0) (same-order (definitions lim.row ws) defs up down n limits.per_name)

        second : get_or m (get_or (order defs n limits.per_name) k 0) 0 ≡ mark (reached defs n limits.per_name (get_or (order defs n limits.per_name) k 0))
        second =
            let f : ℕ → ℕ = λ i. mark (reached (definitions lim.row ws) n limits.per_name i) in
            let i = get_or (order defs n limits.per_name) k 0 in
            ap (λ (x : List ℕ). get_or x i 0) s.marked
            ∙ get_or-append (map f (range 0 n)) (replicate (marks - n) 0) 0 i (omega (arith, low, length-map (range 0 n) f, length-range n))
            ∙ get_d_map_range f n i low ∙ ap mark (same-reached (definitions lim.row ws) defs up down n limits.per_name i)

        both : place_word o m k ≡ 2 * get_or (order defs n limits.per_name) k 0 + mark (reached defs n limits.per_name (get_or (order defs n limits.per_name) k 0))
        both =
            ap (λ (i : ℕ). 2 * i + get_or m i 0) first ∙ ap (λ (r : ℕ). 2 * get_or (order defs n limits.per_name) k 0 + r) second
