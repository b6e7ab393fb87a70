-- From words to sets: what a change of words does to the members. The proofs of the methods use these laws.
use mathlib.Core.Path.{◌≡◌, refl, sym, ap, ap₂, ◌∙◌}
use mathlib.Core.Bool.{Bool, true, false, not, cond, ◌&&◌, ◌||◌, and_comm, or_comm}
use mathlib.Core.List.{List}
use mathlib.Core.Logic.{◌⊎◌, inl, inr, ⊎_elim}
use Prim.Native.Nat.{ℕ, ◌+◌, ◌-◌, ◌*◌, ◌/◌, ◌%◌, ◌^◌, ◌≤◌, ◌<◌}
use native.Mathlib.Omega.{arith}
use lib.Dec.{eqb}
use lib.ListN.{length, get_or, set, replicate, length-replicate, get_or-replicate, get_or-eq_default}
use lib.Seq.{get_or-set_same, get_or-set_other}
use lib.Bits.{bit_and, bit_or}
use borrow.Author.Count.{below_more}
use borrow.Author.Tests.{eqb-true, eqb-false, eq-eqb, ne_eqb}
use Rattle.base.proofs.Laws.Truth.{bool_cases, lt_cases, not-both, bool_ext}
use Rattle.base.specs.Lists.{all}
use Rattle.base.specs.Sets.{bit, member, members}
use Rattle.names.specs.Inner.Sets.{is_empty, Empty, Only, Inserted, Removed, Union, Difference, Intersection}
use Rattle.names.proofs.Laws.Laws.{member_out, member_below, all-members, members-all, empty-has, has-empty}
use Rattle.names.proofs.Laws.Bits.{bit-and, bit-or, bit_and_not, bit_of_zero, mask, bit_pow, or-within, within-or}

-- ---- word by word: empty, union, difference, intersection and is_subset

pub zeros-empty : (c : ℕ) → Empty (replicate c 0)
unfolding member
zeros-empty c = record { has = λ n. ap (λ (w : ℕ). bit w (n % 64)) (zero-at (n / 64)) ∙ bit_of_zero (n % 64) }
  where
    zero-at : (i : ℕ) → ◌≡◌ {A = ℕ} (get_or (replicate c 0) i 0) 0
    zero-at i =
        ⊎_elim (λ (h : i < c). get_or-replicate c i 0 0 h)
        (λ (h : c ≤ i). get_or-eq_default (replicate c 0) 0 {n = i} (omega (arith, length-replicate {A = ℕ} c 0))) (lt_cases i c)

-- Where r has the words of f before i, it has them before i + 1 once f's word i is stored.
pub words-next : (f : ℕ → ℕ) (r : List ℕ) (i : ℕ) → i < length r → ((j : ℕ) → j < i → get_or r j 0 ≡ f j)
    → (j : ℕ) → j < i + 1 → get_or (set r i (f i)) j 0 ≡ f j
words-next f r i h before =
    below_more (λ j. get_or (set r i (f i)) j 0 ≡ f j) i
    (λ j l. get_or-set_other r i j (f i) 0 (λ e. omega arith) ∙ before j l) (get_or-set_same r i (f i) 0 h)

-- Where each bit of r is g of the bits of a and b, so is each member.
bitwise : (g : Bool → Bool → Bool) → g false false ≡ false → (c : ℕ) (a b r : List ℕ) → length a ≡ c → length b ≡ c → length r ≡ c
    → ((i : ℕ) → i < c → (k : ℕ) → k < 64 → bit (get_or r i 0) k ≡ g (bit (get_or a i 0) k) (bit (get_or b i 0) k))
    → (n : ℕ) → member r n ≡ g (member a n) (member b n)
unfolding member
bitwise g none c a b r la lb lr bits n =
    ⊎_elim (λ (h : n < 64 * c). bits (n / 64) (omega arith) (n % 64) (omega arith))
    (λ (h : 64 * c ≤ n). rw (member_out r n (omega arith), member_out a n (omega arith), member_out b n (omega arith)) (sym none))
    (lt_cases n (64 * c))

-- `|`, `& !` and `&` of the words at i.
abbrev pub or_word : List ℕ → List ℕ → ℕ → ℕ
or_word a b i = bit_or (get_or a i 0) (get_or b i 0)

abbrev pub and_not_word : List ℕ → List ℕ → ℕ → ℕ
and_not_word a b i = bit_and (get_or a i 0) (2 ^ 64 - 1 - get_or b i 0)

abbrev pub and_word : List ℕ → List ℕ → ℕ → ℕ
and_word a b i = bit_and (get_or a i 0) (get_or b i 0)

module _ (c : ℕ) (a b r : List ℕ) (la : length a ≡ c) (lb : length b ≡ c) (lr : length r ≡ c) where
  pub union_words : ((i : ℕ) → i < c → get_or r i 0 ≡ or_word a b i) → Union a b r
  union_words or = record {
    has = bitwise (λ x y. x || y) refl c a b r la lb lr (λ i h k l. ap (λ (w : ℕ). bit w k) (or i h) ∙ bit-or (get_or a i 0) (get_or b i 0) k);
  }

  pub difference_words : ((i : ℕ) → i < c → get_or b i 0 < 2 ^ 64) → ((i : ℕ) → i < c → get_or r i 0 ≡ and_not_word a b i) → Difference a b r
  difference_words fits and-not = record {
    has = bitwise (λ x y. x && not y) refl c a b r la lb lr
        (λ i h k l. ap (λ (w : ℕ). bit w k) (and-not i h) ∙ bit_and_not (get_or a i 0) (get_or b i 0) k (fits i h) l);
  }

  pub intersection_words : ((i : ℕ) → i < c → get_or r i 0 ≡ and_word a b i) → Intersection a b r
  intersection_words and = record {
    has = bitwise (λ x y. x && y) refl c a b r la lb lr (λ i h k l. ap (λ (w : ℕ). bit w k) (and i h) ∙ bit-and (get_or a i 0) (get_or b i 0) k);
  }

pub member-at : (ws : List ℕ) (i k : ℕ) → k < 64 → member ws (64 * i + k) ≡ bit (get_or ws i 0) k
unfolding member
member-at ws i k h =
    let q : (64 * i + k) / 64 ≡ i = omega arith in
    let r : (64 * i + k) % 64 ≡ k = omega arith in
    ap₂ (λ (i k : ℕ). bit (get_or ws i 0) k) q r

module _ (a b : List ℕ) where
  pub words_subset : ((i : ℕ) → i < length a → or_word a b i ≡ get_or b i 0) → all (member b) (members a) ≡ true
  unfolding member
  words_subset or = members-all (member b) a (λ n m. or-within _ _ (or (n / 64) (omega (arith, member_below a n m))) (n % 64) m)

  -- A bit that shows in `|` is a name of a that b lacks.
  pub word_not_subset : (i : ℕ) → get_or a i 0 < 2 ^ 64 → get_or b i 0 < 2 ^ 64 → (or_word a b i ≡ get_or b i 0 → ⊥)
      → all (member b) (members a) ≡ false
  word_not_subset i ha hb ne =
      ⊎_elim (λ (h : all (member b) (members a) ≡ true). absurd (ne (within-or 64 _ _ ha hb (shared h))))
      (λ (h : all (member b) (members a) ≡ false). h) (bool_cases (all (member b) (members a)))
    where
      shared : all (member b) (members a) ≡ true → (k : ℕ) → k < 64 → bit (get_or a i 0) k ≡ true → bit (get_or b i 0) k ≡ true
      shared h k l m = sym (member-at b i k l) ∙ all-members (member b) a h (64 * i + k) (member-at a i k l ∙ m)

-- The subsets of the empty set have no member.
pub subset_empty : (ws : List ℕ) {e : List ℕ} → Empty e → all (member e) (members ws) ≡ is_empty ws
subset_empty ws {e} none =
    bool_ext _ _ (λ (h : all (member e) (members ws) ≡ true). has-empty ws (record { has = λ n. go h n (bool_cases (member ws n)) }))
    (λ (h : is_empty ws ≡ true). members-all (member e) ws (λ n m. absurd (not-both m ((empty-has ws h).has n))))
  where
    go : all (member e) (members ws) ≡ true → (n : ℕ) → (member ws n ≡ true) ⊎ (member ws n ≡ false) → member ws n ≡ false
    go h n (inl m) = absurd (not-both (all-members (member e) ws h n m) (none.has n))
    go h n (inr m) = m

-- ---- one name: insert, remove and contains

-- In one word, a name is told by its bit.
same_bit : (n x : ℕ) → n / 64 ≡ x / 64 → eqb n x ≡ eqb (n % 64) (x % 64)
same_bit n x q =
    bool_ext _ _ (λ (p : eqb n x ≡ true). eq-eqb (n % 64) (x % 64) (omega (arith, eqb-true n x p)))
    (λ (p : eqb (n % 64) (x % 64) ≡ true). eq-eqb n x (omega (arith, eqb-true (n % 64) (x % 64) p)))

-- The bit of x in its word.
abbrev pub name_bit : ℕ → ℕ
name_bit x = (1 * 2 ^ (x % 64)) % 2 ^ 64

-- Is n the name whose bit it is?
bit_is : (x n : ℕ) → n / 64 ≡ x / 64 → bit (name_bit x) (n % 64) ≡ eqb n x
bit_is x n e = rw (mask (x % 64) (omega arith), same_bit n x e) (bit_pow (x % 64) (n % 64))

-- The word of x becomes w, and no other changes.
module _ (ws : List ℕ) (x w : ℕ) (h : x / 64 < length ws) where
  stored : (g : Bool → Bool → Bool) → ((b : Bool) → g false b ≡ b)
      → ((n : ℕ) → n / 64 ≡ x / 64 → bit w (n % 64) ≡ g (eqb n x) (member ws n)) → (n : ℕ) → member (set ws (x / 64) w) n ≡ g (eqb n x) (member ws n)
  unfolding member
  stored g none own n = go (bool_cases (eqb (n / 64) (x / 64)))
    where
      go : (eqb (n / 64) (x / 64) ≡ true) ⊎ (eqb (n / 64) (x / 64) ≡ false)
          → bit (get_or (set ws (x / 64) w) (n / 64) 0) (n % 64) ≡ g (eqb n x) (bit (get_or ws (n / 64) 0) (n % 64))
      go (inl e) =
          let s = eqb-true _ _ e in
          ap (λ (i : ℕ). bit (get_or (set ws (x / 64) w) i 0) (n % 64)) s ∙ ap (λ (v : ℕ). bit v (n % 64)) (get_or-set_same ws (x / 64) w 0 h) ∙ own n s
      go (inr e) =
          let ne = eqb-false (n / 64) (x / 64) e in
          ap (λ (v : ℕ). bit v (n % 64)) (get_or-set_other ws (x / 64) (n / 64) w 0 ne)
          ∙ sym (ap (λ (b : Bool). g b (bit (get_or ws (n / 64) 0) (n % 64))) (ne_eqb n x (λ p. ne (omega arith))) ∙ none _)

module _ (ws : List ℕ) (x : ℕ) (h : x / 64 < length ws) where
  pub stored_in : Inserted ws x (set ws (x / 64) (bit_or (get_or ws (x / 64) 0) (name_bit x)))
  unfolding member
  stored_in = record {
    has = stored ws x _ h (λ own b. own || b) (λ b. refl)
        (λ n e. bit-or (get_or ws (x / 64) 0) (name_bit x) (n % 64)
        ∙ or_comm (bit (get_or ws (x / 64) 0) (n % 64)) (bit (name_bit x) (n % 64)) ∙ ap₂ (λ (a b : Bool). a || b) (bit_is x n e) (ap (λ (i : ℕ). bit (get_or ws i 0) (n % 64)) (sym e)));
  }

-- ---- one name, word by word

-- The word i of the set that has x alone.
abbrev pub only_word : ℕ → ℕ → ℕ
only_word x i = cond (eqb i (x / 64)) (name_bit x) 0

pub only-words : (c x : ℕ) (r : List ℕ) → x < 64 * c → length r ≡ c → ((i : ℕ) → i < c → get_or r i 0 ≡ only_word x i) → Only x r
unfolding member
only-words c x r h l words = record {
  has = λ n. ⊎_elim (λ (b : n < 64 * c). ap (λ (w : ℕ). bit w (n % 64)) (words (n / 64) (omega arith)) ∙ inside n (bool_cases _))
      (λ (b : 64 * c ≤ n). member_out r n (omega arith) ∙ sym (ne_eqb n x (λ e. omega arith))) (lt_cases n (64 * c));
}
  where
    inside : (n : ℕ) → (eqb (n / 64) (x / 64) ≡ true) ⊎ (eqb (n / 64) (x / 64) ≡ false) → bit (only_word x (n / 64)) (n % 64) ≡ eqb n x
    inside n (inl e) = rw (e, mask (x % 64) (omega arith), same_bit n x (eqb-true _ _ e)) (bit_pow (x % 64) (n % 64))
    inside n (inr e) = rw (e, ne_eqb n x (λ p. eqb-false (n / 64) (x / 64) e (omega arith))) (bit_of_zero (n % 64))

module _ {ws : List ℕ} {x : ℕ} {t r : List ℕ} (only : Only x t) where
  pub inserted : Union ws t r → Inserted ws x r
  inserted u = record { has = λ n. u.has n ∙ rw (only.has n) (or_comm (member ws n) (eqb n x)) }

  pub removed : Difference ws t r → Removed ws x r
  removed d = record { has = λ n. d.has n ∙ rw (only.has n) (and_comm (member ws n) (not (eqb n x))) }

-- Where w is the word at `at` if that stands before word i, the choice is that word if it stands before word i + 1.
pub word_at-next : (ws : List ℕ) (at i w : ℕ) → (at < i → w ≡ get_or ws at 0) → at < i + 1 → cond (eqb i at) (get_or ws i 0) w ≡ get_or ws at 0
word_at-next ws at i w before h = go (bool_cases (eqb i at))
  where
    go : (eqb i at ≡ true) ⊎ (eqb i at ≡ false) → cond (eqb i at) (get_or ws i 0) w ≡ get_or ws at 0
    go (inl e) = rw e (ap (λ (j : ℕ). get_or ws j 0) (eqb-true i at e))
    go (inr e) = let ne = eqb-false i at e in rw e (before (omega arith))
