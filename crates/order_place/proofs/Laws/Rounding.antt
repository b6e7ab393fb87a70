-- Followed turns, and a round, name by name.
use mathlib.Core.Path.{◌≡◌, sym, ap, ◌∙◌}
use mathlib.Core.List.{List}
use Prim.Native.Nat.{ℕ, ◌+◌, ◌*◌}
use lib.ListN.{length}
use Rattle.base.specs.Limits as limits
use Rattle.base.specs.Lists.{filter, range}
use Rattle.base.specs.Sets.{member, members}
use Rattle.names.specs.Inner.Names.{Statements}
use Rattle.names.specs.Inner.Sets.{Gap}
use Rattle.names.specs.Inner.Members.{Lowest}
use Rattle.names.proofs.Laws.Listing.{members_from, from_start, left-some, left-none}
use Rattle.order.specs.Definitions.{Definition}
use Rattle.order.specs.Inner.Orders.{turn_order, followed_order, round_order}
use Rattle.order.proofs.Laws.OrderLaws.{followed_still, followed-more, round-nil, round-cons, round-filter}
use Rattle.order.specs.Call.{definitions}
use Rattle.order_rows.specs.Inner.Masks.{Masked}
use Rattle.order_rows.proofs.Laws.DefinesLaws.{defined_in-none}
use Rattle.order_place.specs.Inner.State.{order_of, HoldsPlaced, After}
use Rattle.order_place.proofs.Laws.StateLaws.{state_order_length, after-length}
use Rattle.order_place.specs.declared.State.{State}

-- ---- a followed turn

module _ {defs : List Definition} {n : ℕ} (x : ℕ) {s s' : State} (h : HoldsPlaced defs n s) (own : After defs n (turn_order defs n x (order_of s)) s') where
  -- The turn placed nothing.
  pub followed-none : s'.count ≡ s.count → After defs n (followed_order defs n (order_of s) x) s'
  followed-none e = record {
    holds = own.holds;
    now_is = own.now_is ∙ sym (followed_still defs n (order_of s) x (after-length own ∙ e ∙ sym (state_order_length h)));
  }

  -- It placed something, and one of the empty name follows.
  pub followed-some : (s'.count ≡ s.count → ⊥) → {t : State} → After defs n (turn_order defs n 0 (order_of s')) t
      → After defs n (followed_order defs n (order_of s) x) t
  followed-some ne more = record {
    holds = more.holds;
    now_is =
        more.now_is ∙ ap (turn_order defs n 0) own.now_is
        ∙ sym (followed-more defs n (order_of s) x (λ e. ne (sym (after-length own) ∙ e ∙ state_order_length h)));
  }

-- ---- a round

-- A round over all names is one over those that a statement defines.
round-members : {w : ℕ} {ws : List ℕ} {masks : List Statements} {names : List ℕ} → Masked w ws masks names → 64 * length names ≡ limits.per_name → (n : ℕ) (o : List ℕ)
    → round_order (definitions w ws) n (members names) o ≡ round_order (definitions w ws) n (range 0 limits.per_name) o
unfolding members
round-members {w} {ws} {masks} {names} masked whole n o =
    ap (λ (e : ℕ). round_order (definitions w ws) n (filter (member names) (range 0 e)) o) whole
    ∙ sym (round-filter (definitions w ws) n (member names) (λ x f i l. defined_in-none w ws i x (sym (masked.named x) ∙ f)) (range 0 limits.per_name) o)

-- In a round over the members of `names`, at those from a up: their turns make `result`.
pub record Rounding (defs : List Definition) (n : ℕ) (names result : List ℕ) (s : State) (a : ℕ) : Type 0 where
  pub holds : HoldsPlaced defs n s
  pub left : round_order defs n (members_from names a) (order_of s) ≡ result

pub rounding_first : {w : ℕ} {ws : List ℕ} {masks : List Statements} {names : List ℕ} {n : ℕ} {s : State} → Masked w ws masks names
    → 64 * length names ≡ limits.per_name → HoldsPlaced (definitions w ws) n s
    → Rounding (definitions w ws) n names (round_order (definitions w ws) n (range 0 limits.per_name) (order_of s)) s 0
rounding_first {w} {ws} {names = names} {n = n} {s = s} masked whole h = record {
  holds = h;
  left =
      ap (λ (xs : List ℕ). round_order (definitions w ws) n xs (order_of s)) (from_start names) ∙ round-members masked whole n (order_of s);
}

module _ {defs : List Definition} {n : ℕ} {names result : List ℕ} {s : State} {a : ℕ} (round : Rounding defs n names result s a)
    (whole : 64 * length names ≡ limits.per_name) where
  pub rounding_next : {x : ℕ} → Lowest names limits.per_name a x → {s' : State} → After defs n (followed_order defs n (order_of s) x) s'
      → Rounding defs n names result s' (x + 1)
  rounding_next {x} lowest after = record {
    holds = after.holds;
    left =
        ap (round_order defs n (members_from names (x + 1))) after.now_is ∙ sym (round-cons defs n x (members_from names (x + 1)) (order_of s))
        ∙ sym (ap (λ (xs : List ℕ). round_order defs n xs (order_of s)) (left-some names limits.per_name whole lowest)) ∙ round.left;
  }

  pub rounding_done : Gap names a limits.per_name → After defs n result s
  rounding_done none = record {
    holds = round.holds;
    now_is =
        sym (round-nil defs n (order_of s)) ∙ sym (ap (λ (xs : List ℕ). round_order defs n xs (order_of s)) (left-none names limits.per_name whole none))
        ∙ round.left;
  }
