-- A loop that lists the members of a set:
--     let mut n = s.next(0);
--     while n < CAPACITY { ..; n = s.next(n + 1); }
-- It may compute any function that goes through the members in order. `Listing` is what holds at the loop's test.
use mathlib.Core.Path.{◌≡◌, refl, sym, ap, ◌∙◌}
use mathlib.Core.Bool.{Bool, true, false, ◌&&◌}
use mathlib.Core.List.{List, [], ◌∷◌}
use mathlib.Core.Logic.{⊎_elim}
use Prim.Native.Nat.{ℕ, ◌+◌, ◌*◌, ◌≤◌, ◌<◌}
use native.Mathlib.Omega.{arith}
use lib.ListN.{length}
use Rattle.base.proofs.Laws.Truth.{lt_cases}
use Rattle.base.specs.Lists.{all, filter, range}
use Rattle.base.proofs.Laws.Ranges.{range-nil, range_cons, filter_skip}
use Rattle.base.specs.Sets.{member, members}
use Rattle.names.specs.Inner.Sets.{Next, Gap}
use Rattle.names.specs.Inner.Members.{Lowest}

-- The members from a up.
unfoldable pub members_from : List ℕ → ℕ → List ℕ
members_from ws a = filter (member ws) (range a (64 * length ws))

module _ (ws : List ℕ) where
  pub from_start : members_from ws 0 ≡ members ws
  unfolding members_from members
  from_start = refl

  from_end : (n : ℕ) → 64 * length ws ≤ n → members_from ws n ≡ []
  unfolding members_from
  from_end n h = ap (filter (member ws)) (range-nil n (64 * length ws) h)

  from_member : (n : ℕ) → n < 64 * length ws → member ws n ≡ true → members_from ws n ≡ n ∷ members_from ws (n + 1)
  unfolding members_from
  from_member n h m = rw (range_cons n (64 * length ws) h, m)

  -- What `next` passes over is no member.
  from_next : {end a r : ℕ} → Next ws end a r → members_from ws a ≡ members_from ws r
  unfolding members_from
  from_next {end} {a} {r} x =
      ⊎_elim (λ (h : r < a). from_end a (omega arith) ∙ sym (from_end r (omega arith)))
      (λ (h : a ≤ r). filter_skip (member ws) a r (64 * length ws) h (omega arith) x.gap) (lt_cases r a)

-- The number n is the next member to list, or the end, and f of the members from n up is the answer.
-- A turn may put another f in its place: in a loop that gathers, what it has gathered is part of f.
pub record Listing {A : Type 0} (ws : List ℕ) (end : ℕ) (answer : A) (f : List ℕ → A) (n : ℕ) : Type 0 where
  pub whole : 64 * length ws ≡ end
  pub high : n ≤ end
  pub here : n < end → member ws n ≡ true
  pub left : f (members_from ws n) ≡ answer

module _ {A : Type 0} {ws : List ℕ} {end : ℕ} where
  -- Before the loop.
  pub listing_first : (f : List ℕ → A) {r : ℕ} → Next ws end 0 r → Listing ws end (f (members ws)) f r
  listing_first f x = record { whole = x.whole; high = x.high; here = x.found; left = ap f (sym (from_next ws x) ∙ from_start ws) }

  module _ {answer : A} {f : List ℕ → A} {n : ℕ} (l : Listing ws end answer f n) where
    -- In a turn, at the member n.
    pub listing_here : n < end → f (n ∷ members_from ws (n + 1)) ≡ answer
    listing_here h = ap f (sym (from_member ws n (omega arith) (l.here h))) ∙ l.left

    -- After a turn.
    pub listing_next : n < end → (g : List ℕ → A) → ((rest : List ℕ) → f (n ∷ rest) ≡ g rest) → {r : ℕ} → Next ws end (n + 1) r
        → Listing ws end answer g r
    listing_next h g turn x = record {
      whole = x.whole;
      high = x.high;
      here = x.found;
      left = ap g (sym (from_next ws x)) ∙ sym (turn (members_from ws (n + 1))) ∙ listing_here h;
    }

    -- After the loop.
    pub listing_end : end ≤ n → f [] ≡ answer
    listing_end h = ap f (sym (from_end ws n (omega arith))) ∙ l.left

-- ---- a loop that tests each member, and stops at the first that fails

abbrev pub ListedMembers : List ℕ → ℕ → (ℕ → Bool) → ℕ → Type 0
ListedMembers ws end test n = Listing ws end (all test (members ws)) (all test) n

module _ {ws : List ℕ} {end : ℕ} (test : ℕ → Bool) where
  pub members_listed_first : {r : ℕ} → Next ws end 0 r → ListedMembers ws end test r
  members_listed_first = listing_first (all test)

  module _ {n : ℕ} (l : ListedMembers ws end test n) where
    pub members_listed_next : n < end → test n ≡ true → {r : ℕ} → Next ws end (n + 1) r → ListedMembers ws end test r
    members_listed_next h passes = listing_next l h (all test) (λ rest. ap (λ (b : Bool). b && all test rest) passes)

    pub listed-fails : n < end → test n ≡ false → all test (members ws) ≡ false
    listed-fails h fails = sym (listing_here l h) ∙ ap (λ (b : Bool). b && all test (members_from ws (n + 1))) fails

    pub members_listed_all : end ≤ n → all test (members ws) ≡ true
    members_listed_all h = sym (listing_end l h)

-- ---- a loop over the iterator of the members: what comes next, and what is left

module _ (ws : List ℕ) (end : ℕ) (whole : 64 * length ws ≡ end) where
  pub left-some : {a x : ℕ} → Lowest ws end a x → members_from ws a ≡ x ∷ members_from ws (x + 1)
  unfolding members_from
  left-some {a} {x} l =
      filter_skip (member ws) a x (64 * length ws) l.low (omega (arith, l.high)) l.gap ∙ from_member ws x (omega (arith, l.high)) l.found

  pub left-none : {a : ℕ} → Gap ws a end → members_from ws a ≡ []
  unfolding members_from
  left-none {a} gap =
      ⊎_elim (λ (h : end < a). from_end ws a (omega arith))
      (λ (h : a ≤ end). filter_skip (member ws) a end (64 * length ws) h (omega arith) gap ∙ from_end ws end (omega arith)) (lt_cases end a)
