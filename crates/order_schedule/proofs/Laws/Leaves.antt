-- The buffers at each way out of the call.
use mathlib.Core.Path.{◌≡◌, sym, ap, ap₂, ◌∙◌}
use mathlib.Core.Bool.{Bool, true, false}
use mathlib.Core.List.{List, ◌++◌, map}
use Prim.Native.Nat.{ℕ, ◌+◌, ◌-◌, ◌≤◌, ◌<◌}
use native.Mathlib.Omega.{arith}
use lib.ListN.{length, get_or, take, drop, replicate, length-drop, length-replicate, get_or-replicate, take-append-drop, length-map}
use lib.Seq.{ext_get_or, get_or-take, get_or-drop, length-take-le}
use borrow.Rule.Slice.PartMut.{put_mid, same_len_mid}
use Rattle.std.proofs.lemmas.Slice.{between_to_end, between-put_mid}
use borrow.Author.Tests.{eq-eqb, ne_eqb}
use Rattle.base.specs.Limits as limits
use Rattle.base.specs.Limits.{Limits}
use Rattle.base.specs.Lists.{elem, range}
use Rattle.base.proofs.Laws.Ranges.{counted-at}
use Rattle.buffers.proofs.Laws.Fills.{length-range}
use Rattle.order.specs.Turns.{placed, order, reached, mark}
use Rattle.order.specs.Inner.Orders.{placed_order}
use Rattle.order.proofs.Laws.Walked.{walked-below}
use Rattle.order.proofs.Laws.OrderWalks.{placed-walked}
use Rattle.order.proofs.Laws.Labels.{placed_by_order, order_by_order, reached_by_order}
use Rattle.order.specs.Call.{definitions, accepts}
use Rattle.order_place.specs.Inner.State.{order_of, After}
use Rattle.order_place.proofs.Laws.StateLaws.{after-length}
use Rattle.order_place.specs.declared.State.{State}
use Rattle.order_schedule.specs.Inner.Call.{Arranged, Scheduled, MarkedBy}
use Rattle.std.specs.Prelude.{Ok, Err}
use mathlib.Core.Logic.{⊎_elim}
use Rattle.base.proofs.Laws.Truth.{bool_cases}
use Rattle.order.specs.declared.Refused.TheVariants.{BadList}

-- ---- lists with zeros

zeros-drop : (l : List ℕ) (n : ℕ) → ((i : ℕ) → n ≤ i → get_or l i 0 ≡ 0) → drop n l ≡ replicate (length l - n) 0
zeros-drop l n z =
    ext_get_or 0 (drop n l) (replicate (length l - n) 0) (length-drop n l ∙ sym (length-replicate (length l - n) 0))
    (λ i h. get_or-drop n l i 0 ∙ z (n + i) (omega arith) ∙ sym (get_or-replicate (length l - n) i 0 0 (omega (arith, length-drop n l))))

zeros-after : (l : List ℕ) (n : ℕ) → ((i : ℕ) → n ≤ i → get_or l i 0 ≡ 0) → l ≡ take n l ++ replicate (length l - n) 0
zeros-after l n z = sym (take-append-drop n l) ∙ ap (λ (t : List ℕ). take n l ++ t) (zeros-drop l n z)

-- What is behind n, once it is filled with zeros.
pub drop-filled : (l z : List ℕ) (n : ℕ) → n ≤ length l → z ≡ replicate (length (take (length l - n) (drop n l))) 0
    → drop n (put_mid n (length l - n) l z) ≡ replicate (length l - n) 0
drop-filled l z n h e =
    let k = length l - n in
    let whole : length (take k (drop n l)) ≡ k = length-take-le k (drop n l) (omega (arith, length-drop n l)) in
    let long : length z ≡ k = ap length e ∙ length-replicate {A = ℕ} _ 0 ∙ whole in
    sym (between_to_end (put_mid n k l z) n (length l) (omega (arith, same_len_mid n k l z (long ∙ sym whole))))
    ∙ between-put_mid n k l z (length l) h long ∙ e ∙ ap (λ (j : ℕ). replicate j 0) whole

pub get_d_map_range : (f : ℕ → ℕ) (n i : ℕ) → i < n → get_or (map f (range 0 n)) i 0 ≡ f i
unfolding range
get_d_map_range f n i h = let e : 0 + i ≡ i = omega arith in counted-at f (n - 0) 0 i 0 (omega arith) ∙ ap f e

-- ---- what is placed, arranged

-- The statements placed are those of the turn rule.
module _ (lim : Limits) (ws : List ℕ) (n room marks : ℕ) {s : State}
    (after : After (definitions lim.row ws) n (placed_order (definitions lim.row ws) n limits.per_name) s) where
  -- They are below n.
  pub placed-low : (i : ℕ) → elem i (order_of s) ≡ true → i < n
  placed-low i m = walked-below (placed-walked (definitions lim.row ws) n limits.per_name) i (ap (elem i) (sym after.now_is) ∙ m)

  module _ {m before : List ℕ} (marked : MarkedBy (order_of s) before m) (long : length before ≡ marks) (few : n ≤ marks) where
    all-marks : m ≡ map (λ i. mark (reached (definitions lim.row ws) n limits.per_name i)) (range 0 n) ++ replicate (marks - n) 0
    all-marks =
        let defs = definitions lim.row ws in
        let lm : length m ≡ marks = marked.long ∙ long in
        let at : (i : ℕ) → i < n → get_or (take n m) i 0 ≡ get_or (map (λ j. mark (reached defs n limits.per_name j)) (range 0 n)) i 0 =
        λ i b. get_or-take n m i 0 b ∙ marked.marks i ∙ ap (λ (l : List ℕ). mark (elem i l)) after.now_is
        ∙ ap mark (sym (reached_by_order defs n limits.per_name i)) ∙ sym (get_d_map_range (λ j. mark (reached defs n limits.per_name j)) n i b) in
        let front : take n m ≡ map (λ j. mark (reached defs n limits.per_name j)) (range 0 n) =
        ext_get_or 0 _ _ (length-take-le n m (omega (arith, lm)) ∙ sym (length-map (range 0 n) _ ∙ length-range n))
        (λ i l. at i (omega (arith, length-take-le n m (omega (arith, lm))))) in
        let none : (i : ℕ) → n ≤ i → get_or m i 0 ≡ 0 =
        λ i h. marked.marks i ∙ ap mark (⊎_elim (λ (p : elem i (order_of s) ≡ true). absurd (omega (arith, placed-low i p)))
        (λ (p : elem i (order_of s) ≡ false). p) (bool_cases (elem i (order_of s)))) in
        zeros-after m n none ∙ ap₂ (λ (x : List ℕ) (k : ℕ). x ++ replicate (k - n) 0) front lm

    pub all_placed : s.count ≡ n → Arranged lim ws n room marks true (take n s.order ++ replicate (room - n) 0) m
    all_placed e =
        let defs = definitions lim.row ws in
        let p : placed defs n limits.per_name ≡ true = placed_by_order defs n limits.per_name ∙ eq-eqb _ n (after-length after ∙ e) in
        let front : take n s.order ≡ order defs n limits.per_name =
        ap (λ (k : ℕ). take k s.order) (sym e) ∙ after.now_is ∙ sym (order_by_order defs n limits.per_name ∙ rw p) in
        record { came-to = sym p; ordered = ap (λ (l : List ℕ). l ++ replicate (room - n) 0) front; marked = all-marks }

    pub not-placed : (s.count ≡ n → ⊥) → Arranged lim ws n room marks false (range 0 n ++ replicate (room - n) 0) m
    not-placed ne =
        let defs = definitions lim.row ws in
        let p : placed defs n limits.per_name ≡ false = placed_by_order defs n limits.per_name ∙ ne_eqb _ n (λ e. ne (sym (after-length after) ∙ e)) in
        record { came-to = sym p; ordered = rw p; marked = all-marks }

-- ---- the ways out of the call

module _ (lim : Limits) (ws : List ℕ) (n room marks : ℕ) where
  pub refused : accepts lim ws n room marks ≡ false → Scheduled lim ws n room marks (Err BadList) (replicate room 0) (replicate marks 0)
  refused f = record { came-to = rw f; ordered = rw f; marked = rw f }

  pub arranged : accepts lim ws n room marks ≡ true → (all : Bool) (o m : List ℕ) → Arranged lim ws n room marks all o m
      → Scheduled lim ws n room marks (Ok all) o m
  arranged accepted all o m a = record {
    came-to = rw (accepted, a.came-to);
    ordered = rw accepted a.ordered;
    marked = rw accepted a.marked;
  }
