-- Laws of `Appended`.
use mathlib.Core.Path.{◌≡◌, refl, sym, ap, ◌∙◌, subst}
use mathlib.Core.Bool.{Bool, true, false, cond, ◌&&◌, and-true, and-false}
use mathlib.Core.List.Memᴰ
use mathlib.Core.List.{List, [], ◌∷◌, ◌++◌, Memᴰ}
use mathlib.Core.Logic.{◌⊎◌, inl, inr}
use Prim.Native.Nat.{ℕ, zero, suc, ◌+◌, ◌-◌, ◌*◌, ◌≤◌, ◌<◌}
use native.Mathlib.Nat.{mul-le-mul_left, mul-suc}
use native.Mathlib.Omega.{arith}
use lib.Dec.{ltb}
use lib.ListN.{length, get_or, set, length-set}
use lib.Seq.{get_or-set_same, get_or-set_other}
use borrow.Author.Tests.{lt-ltb, le-ltb}
use Rattle.base.specs.Limits as limits
use Rattle.base.proofs.Laws.Truth.{lt_cases}
use Rattle.base.specs.Lists.{filter, elem, counted, range}
use Rattle.base.specs.Sets.{member, members, words_at}
use Rattle.names.specs.Inner.Names.{Names}
use Rattle.order.specs.Definitions.{Definition}
use Rattle.names_width.specs.declared.Width.{Width}
use Rattle.names_width.specs.Inner.Widths.{set_words, row_words, Put}
use Rattle.names_width.proofs.Laws.Laws.{words-length, row_two, row_words_lem, at_most, filter-end}
use Rattle.order.specs.Call.{definition_at}
use Rattle.order_rows.specs.Inner.Rows.{held_row}
use Rattle.order_rows.proofs.Laws.RowLaws.{row_same}
use Rattle.definition.specs.Uses.{define}
use Rattle.definition_walk.specs.Inner.Own.{Holds}
use Rattle.definition_walk.specs.Inner.Appended.{Appended, Pushed}

pub appended-none : (v : Width) (ws : List ℕ) (a : ℕ) → Appended v ws ws a a []
appended-none v ws a = record {
  up = omega arith;
  before = λ j l. refl;
  each = λ j low high. absurd (omega arith);
  all = λ d m. absurd (Memᴰ.not-nil m);
}

-- A row below n is the same where the words are.
pub rows_same_words : (v : Width) (rs us : List ℕ) (n : ℕ) → ((j : ℕ) → j < row_words v * n → get_or rs j 0 ≡ get_or us j 0) → (j : ℕ) → j < n
    → definition_at (row_words v) rs j ≡ definition_at (row_words v) us j
rows_same_words v rs us n h j l = row_same (row_words v) (row_two v) rs us j (λ i a b. h i (omega (arith, mul-le-mul_left (row_words v) l, mul-suc (row_words v) j)))

pub appended_then : (v : Width) (ws us rs : List ℕ) (a b c : ℕ) (ds es : List Definition)
    → Appended v ws us a b ds → Appended v us rs b c es → Appended v ws rs a c (ds ++ es)
appended_then v ws us rs a b c ds es h g = record {
  up = omega (arith, h.up, g.up);
  before = λ j l. g.before j (omega (arith, mul-le-mul_left (row_words v) h.up)) ∙ h.before j l;
  each = λ j low high. place j low high (lt_cases j b);
  all = λ d m. found d (Memᴰ.append_cases ds m);
}
  where
    place : (j : ℕ) → a ≤ j → j < c → (j < b) ⊎ (b ≤ j) → (d : Definition) × Memᴰ d (ds ++ es) × (definition_at (row_words v) rs j ≡ held_row (row_words v) d)
    place j low high (inl l) =
        let f = h.each j low l in
        (f.0, Memᴰ.append_left es f.1, rows_same_words v rs us b g.before j l ∙ f.2)
    place j low high (inr l) = let f = g.each j l high in (f.0, Memᴰ.append_right ds f.1, f.2)

    found : (d : Definition) → Memᴰ d ds ⊎ Memᴰ d es → (j : ℕ) × (a ≤ j) × (j < c) × (definition_at (row_words v) rs j ≡ held_row (row_words v) d)
    found d (inl m) =
        let f = h.all d m in
        (f.0, f.1, omega (arith, f.2, g.up), rows_same_words v rs us b g.before f.0 f.2 ∙ f.3)
    found d (inr m) =
        let f = g.all d m in
        (f.0, omega (arith, f.1, h.up), f.2, f.3)

-- The order of the list does not matter.
pub appended_swap : (v : Width) (ws rs : List ℕ) (a b : ℕ) (ds es : List Definition) → Appended v ws rs a b (ds ++ es) → Appended v ws rs a b (es ++ ds)
appended_swap v ws rs a b ds es h = record {
  up = h.up;
  before = h.before;
  each = λ j low high. let f = h.each j low high in (f.0, turned ds es f.1, f.2);
  all = λ d m. h.all d (turned es ds m);
}
  where
    turned : {d : Definition} (k l : List Definition) → Memᴰ d (k ++ l) → Memᴰ d (l ++ k)
    turned {d} k l m = go (Memᴰ.append_cases k m)
      where
        go : Memᴰ d k ⊎ Memᴰ d l → Memᴰ d (l ++ k)
        go (inl p) = Memᴰ.append_right l p
        go (inr p) = Memᴰ.append_left k p

-- ---- one definition

filter-filter : (f g : ℕ → Bool) (l : List ℕ) → filter f (filter g l) ≡ filter (λ n. g n && f n) l
filter-filter f g [] = refl
filter-filter f g (n ∷ l) = go (g n) (f n) (filter-filter f g l)
  where
    go : (a b : Bool) → filter f (filter g l) ≡ filter (λ n. g n && f n) l
        → filter f (cond a (n ∷ filter g l) (filter g l)) ≡ cond (a && f n) (n ∷ filter (λ n. g n && f n) l) (filter (λ n. g n && f n) l)
    go false b e = e
    go true b e = ap (λ (r : List ℕ). cond (f n) (n ∷ r) r) e

-- A filter asks only its numbers.
filter_same : (f g : ℕ → Bool) (c a : ℕ) → ((n : ℕ) → n < a + c → f n ≡ g n) → filter f (counted a c) ≡ filter g (counted a c)
filter_same f g zero a h = refl
filter_same f g (suc c) a h = rw (h a (omega arith), filter_same f g c (suc a) (λ n l. h n (omega arith)))

-- The words that a set has in a row hold the names that there is room for.
used-is : (c : ℕ) → c ≤ 8 → (m ws : List ℕ) → length m ≡ c → ((n : ℕ) → n < 64 * c → member m n ≡ member ws n)
    → (l : List ℕ) → ((n : ℕ) → elem n l ≡ member ws n) → members m ≡ filter (λ y. ltb y (64 * c)) (filter (λ y. elem y l) (range 0 limits.per_name))
unfolding members range
used-is c few m ws long same l has =
    let e : 64 * length m - 0 ≡ 64 * c = omega (arith, long) in
    ap (λ (n : ℕ). filter (member m) (counted 0 n)) e
    ∙ filter_same (member m) (λ y. elem y l && ltb y (64 * c)) (64 * c) 0 (λ n b. same n (omega arith) ∙ sym (has n)
    ∙ sym (ap (λ (x : Bool). elem n l && x) (lt-ltb n (64 * c) (omega arith)) ∙ and-true (elem n l)))
    ∙ sym (filter-end (λ y. elem y l && ltb y (64 * c)) 0 (64 * c) limits.per_name (omega arith)
    (λ n b. ap (λ (x : Bool). elem n l && x) (le-ltb n (64 * c) (omega arith)) ∙ and-false (elem n l)))
    ∙ sym (filter-filter (λ y. ltb y (64 * c)) (λ y. elem y l) (counted 0 limits.per_name))

module _ (v : Width) (i x : ℕ) (k : Names) (c : ℕ) (ws : List ℕ) where
  module _ (room : row_words v * c + row_words v ≤ length ws) (rs : List ℕ)
      (put : Put (set_words v) (set (set ws (row_words v * c) i) (row_words v * c + 1) x) (row_words v * c + 2) k.words rs) where
    one : List ℕ
    one = set ws (row_words v * c) i

    one-length : length one ≡ length ws
    unfolding one
    one-length = length-set ws (row_words v * c) i

    below : (j : ℕ) → j < row_words v * c + 2 → (j ≡ row_words v * c + 1 → ⊥) → get_or rs j 0 ≡ get_or one j 0
    unfolding one
    below j l ne = put.below j l ∙ get_or-set_other one (row_words v * c + 1) j x 0 ne

    word_0 : get_or rs (row_words v * c) 0 ≡ i
    unfolding one
    word_0 = below (row_words v * c) (omega arith) (λ z. omega arith) ∙ get_or-set_same ws (row_words v * c) i 0 (omega (arith, row_two v))

    word_1 : get_or rs (row_words v * c + 1) 0 ≡ x
    unfolding one
    word_1 = put.below (row_words v * c + 1) (omega arith) ∙ get_or-set_same one (row_words v * c + 1) x 0 (omega (arith, one-length, row_two v))

    set_is : (l : List ℕ) → Holds k l
        → members (words_at (row_words v - 2) rs (row_words v * c + 2)) ≡ filter (λ y. ltb y (64 * (row_words v - 2))) (filter (λ y. elem y l) (range 0 limits.per_name))
    set_is l h =
        let e : set_words v ≡ row_words v - 2 = omega (arith, row_words_lem v) in
        used-is (row_words v - 2) (omega (arith, row_words_lem v, at_most v)) (words_at (row_words v - 2) rs (row_words v * c + 2)) k.words
        (words-length (row_words v - 2) rs (row_words v * c + 2))
        (subst (λ (n : ℕ). (m : ℕ) → m < 64 * n → member (words_at n rs (row_words v * c + 2)) m ≡ member k.words m) e put.held) l h.has

    row_put : (l : List ℕ) → Holds k l → definition_at (row_words v) rs c ≡ held_row (row_words v) (define i x l)
    unfolding define held_row
    row_put l h = rw (word_0, word_1) (ap (λ (u : List ℕ). record { statement = i; var = x; used = u }) (set_is l h))

    pub row_pushed : Pushed v i x k c ws rs
    unfolding one
    row_pushed l h = record {
      up = omega arith;
      before = λ j low. below j (omega arith) (λ z. omega arith) ∙ get_or-set_other ws (row_words v * c) j i 0 (λ z. omega arith);
      each = λ j low high.
          let e : c ≡ j = omega arith in
          (define i x l, Memᴰ.head refl, subst (λ (n : ℕ). definition_at (row_words v) rs n ≡ held_row (row_words v) (define i x l)) e (row_put l h));
      all = λ d m. (c, omega arith, omega arith, row_put l h ∙ sym (ap (held_row (row_words v)) (Memᴰ.eq_of_singleton m)));
    }
