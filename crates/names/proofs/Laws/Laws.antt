-- The laws of sets that callers use.
use mathlib.Core.Path.{◌≡◌, refl, sym, ap, ◌∙◌}
use mathlib.Core.Bool.{Bool, true, false, false≢true}
use mathlib.Core.List.{List, [], ◌∷◌}
use mathlib.Core.Logic.{◌⊎◌, inl, inr, ⊎_elim}
use Prim.Native.Nat.{ℕ, ◌*◌, ◌/◌, ◌%◌, ◌≤◌, ◌<◌}
use native.Mathlib.Omega.{arith}
use lib.Dec.{eqb}
use lib.ListN.{length, get_or-eq_default}
use Rattle.base.proofs.Laws.Truth.{bool_cases, lt_cases, not-both, bool_ext, and_intro, and_left, or_right}
use Rattle.base.specs.Lists.{all, elem, range}
use Rattle.base.proofs.Laws.Lists.{all-elem, elem-all, elem-filter}
use Rattle.base.proofs.Laws.Ranges.{elem-range}
use Rattle.base.specs.Sets.{bit, member, members}
use Rattle.names.specs.Inner.Sets.{is_nil, is_empty, Empty, Inserted}
use Rattle.names.proofs.Laws.Bits.{bit_of_zero}

-- ---- where members are

-- Past the last word there is no member.
pub member_out : (ws : List ℕ) (n : ℕ) → 64 * length ws ≤ n → member ws n ≡ false
unfolding member
member_out ws n h =
    ap (λ (w : ℕ). bit w (n % 64)) (get_or-eq_default ws 0 {n = n / 64} (omega arith)) ∙ bit_of_zero (n % 64)

pub member_below : (ws : List ℕ) (n : ℕ) → member ws n ≡ true → n < 64 * length ws
member_below ws n m =
    ⊎_elim (λ (h : n < 64 * length ws). h) (λ (h : 64 * length ws ≤ n). absurd (not-both m (member_out ws n h)))
    (lt_cases n (64 * length ws))

-- ---- all the members

-- `members` lists the members and nothing else, each once and from the lowest up.
pub elem-members : (ws : List ℕ) (n : ℕ) → elem n (members ws) ≡ member ws n
unfolding members
elem-members ws n =
    elem-filter (member ws) n (range 0 (64 * length ws))
    ∙ bool_ext _ _ (and_left (member ws n) (elem n (range 0 (64 * length ws))))
    (λ (m : member ws n ≡ true). and_intro _ _ m (elem-range n 0 (64 * length ws) (omega arith) (member_below ws n m)))

-- A test that all members pass, said of each. Where the test is `member` of another set, it is what `is_subset` answers.
module _ (f : ℕ → Bool) (ws : List ℕ) where
  pub all-members : all f (members ws) ≡ true → (n : ℕ) → member ws n ≡ true → f n ≡ true
  all-members h n m = all-elem f (members ws) h n (elem-members ws n ∙ m)

  pub members-all : ((n : ℕ) → member ws n ≡ true → f n ≡ true) → all f (members ws) ≡ true
  members-all h = elem-all f (members ws) (λ n m. h n (sym (elem-members ws n) ∙ m))

-- ---- the test for no members

nil-all : (l : List ℕ) → is_nil l ≡ all (λ n. false) l
nil-all [] = refl
nil-all (n ∷ l) = refl

module _ (ws : List ℕ) where
  -- What `is_empty` answers, said of each name.
  pub empty-has : is_empty ws ≡ true → Empty ws
  unfolding is_empty
  empty-has e = record { has = λ n. go n (bool_cases (member ws n)) }
    where
      go : (n : ℕ) → (member ws n ≡ true) ⊎ (member ws n ≡ false) → member ws n ≡ false
      go n (inl m) = absurd (false≢true (all-members (λ n. false) ws (sym (nil-all (members ws)) ∙ e) n m))
      go n (inr m) = m

  pub has-empty : Empty ws → is_empty ws ≡ true
  unfolding is_empty
  has-empty none = nil-all (members ws) ∙ members-all (λ n. false) ws (λ n m. sym (none.has n) ∙ m)

-- ---- what an operation says of one name

pub inserted_keeps : {ws : List ℕ} {x : ℕ} {r : List ℕ} → Inserted ws x r → (n : ℕ) → member ws n ≡ true → member r n ≡ true
inserted_keeps {ws} {x} s n m = s.has n ∙ or_right (eqb n x) (member ws n) m
